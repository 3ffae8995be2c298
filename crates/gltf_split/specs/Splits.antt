-- What a file is split into (glTF 2.0, sections 2.8, 3.6.1 and 3.8.3).
use Rattle.std.specs.Prelude.{◌≡◌, ℕ, ◌+◌, List, [], ◌∷◌, ◌++◌, length, map, Bool, true, false, ⊤}
use Rattle.std.specs.Prelude.{string_bytes, if◌then◌else◌}
use Rattle.std.specs.Prelude.{Option, Some, None}
use Rattle.json.specs.Layout.{pretty}
use Rattle.json.specs.Lex.{tokens}
use Rattle.json.specs.Print.{print}
use Rattle.serde_json.specs.Data.{Data}
use Rattle.serde_json.specs.Written.{IsInOrder}
use Rattle.gltf_json.specs.Reading.{Reads}
use Rattle.gltf_json.specs.declared.root.Root.{Root}
use Rattle.gltf_detach.specs.Detached.{detached}
use Rattle.gltf_detach.specs.Naming.{buffer_name, buffer_uris, image_uris}
use Rattle.gltf_detach.specs.declared.part.Part.{Part}
use Rattle.gltf_trim.specs.Trimmed.{trimmed}
use Rattle.gltf_trimmed.specs.Laws.{trimmed_bytes}
use Rattle.gltf_names.specs.Named.{Named}
use Rattle.gltf_buffers.specs.Names.{Names}
use Rattle.gltf.specs.Import.{IsValidDocument}
use Rattle.gltf_mend.specs.declared.mends.Mends.{Mends}
use Rattle.gltf_required.specs.Import.{IsValidAs}
use Rattle.gltf_required.specs.Required.{ReadsAsItStands, mends_of}
use Rattle.gltf_required.specs.declared.required.Required.{Required}
use Rattle.gltf_bundle.specs.Bundle.{IsSource}
use Rattle.gltf_bundle.specs.Keep.{keep_of}
use Rattle.gltf_bundle.specs.declared.options.Keep.{Keep}
use Rattle.gltf_split.specs.Images.{AreImages}
use Rattle.gltf_split.specs.declared.options.SplitOptions.{SplitOptions}
use Rattle.gltf_split.specs.declared.splitting.Pieces.{Pieces}

-- the bytes of files
abbrev pub bytes_of_parts : List Part → List (List ℕ)
bytes_of_parts ps = map (λ p. p.bytes.items) ps

-- each of these files, from index i on, has the name of that of a buffer, one of so many
abbrev pub AreNamed : List ℕ → ℕ → ℕ → List Part → Type 0
AreNamed stem count i [] = ⊤
AreNamed stem count i (p ∷ ps) =
    (string_bytes p.name ≡ buffer_name stem count i) × AreNamed stem count (i + 1) ps

-- the value of the text
abbrev pub split_value : Pieces → Data → Data
split_value set value =
    detached (buffer_uris set.buffers.items) (image_uris set.images.items) value

-- the text is accepted, but for the bytes of its buffers
abbrev pub IsValidText : List ℕ → Type 0
IsValidText text = (r : Root) × (blob : Option (List ℕ)) × IsValidDocument text r blob

-- the same where some of the extensions that it requires pass
abbrev pub IsValidTextAs : Required → List ℕ → Type 0
IsValidTextAs required text =
    (r : Root) × (blob : Option (List ℕ)) × IsValidAs required text r blob

-- the views of images go where this is asked for, unless images are kept
abbrev pub drops : SplitOptions → Bool
drops options = if options.keep_images then false else options.drop_image_views

-- and unless the document is mended
abbrev pub drops_by : Option Mends → SplitOptions → Bool
drops_by None options = drops options
drops_by (Some mends) options = false

abbrev pub drops_as : Required → SplitOptions → Bool
drops_as required options = drops_by (mends_of required) options

-- which images are not touched
abbrev pub kept : SplitOptions → Keep
kept options = keep_of options.keep_images options.keep_missing_images

-- a text with nothing between its tokens, or with line breaks and two spaces a step
abbrev pub IsLaidOut : Bool → List ℕ → Type 0
IsLaidOut false json = json ≡ print (tokens json)
IsLaidOut true json = json ≡ pretty (tokens json)

-- what is left of the value of a file, where the views of images go or stay, and its buffers have
-- these bytes
abbrev pub value_left : Bool → Data → List (List ℕ) → Data
value_left true value whole = trimmed value whole
value_left false value whole = value

-- what is left of the bytes of its buffers
abbrev pub bytes_left : Bool → Data → List (List ℕ) → List (List ℕ)
bytes_left true value whole = trimmed_bytes value whole
bytes_left false value whole = whole

-- the files of the buffers have what is left of the bytes that the file at the path is imported
-- with, those of the images have the bytes of the images, but for those that stay, and the text is
-- that of what is left of the value of the file, whose buffers and images name these files; the
-- source failed at the names of images that stay. Views go only where nothing is mended
pub record IsSplit (required : Required) (names : Names) (path stem : List ℕ) (keep : Keep)
    (drop : Bool) (set : Pieces) : Type 0 where
  pub value : Data
  pub root_ : Root
  pub whole : List (List ℕ)
  pub source : IsSource required names path value root_ whole
  pub stands : drop ≡ true → ReadsAsItStands required
  pub bytes : bytes_of_parts set.buffers.items ≡ bytes_left drop value whole
  pub named : AreNamed stem (length set.buffers.items) 0 set.buffers.items
  pub lost : List Named
  pub images : AreImages keep names stem whole value set.images.items lost
  pub reads : Reads (string_bytes set.json) (split_value set (value_left drop value whole))
  pub order : IsInOrder (string_bytes set.json) (split_value set (value_left drop value whole))
  pub layout : (pretty : Bool) × IsLaidOut pretty (string_bytes set.json)

-- and it failed at no other name
abbrev pub Splits : Required → Names → List ℕ → List ℕ → Keep → Bool → List Named → List Named
    → Pieces → Type 0
Splits required names path stem keep drop old new set =
    (is : IsSplit required names path stem keep drop set) × (new ≡ is.lost ++ old)
