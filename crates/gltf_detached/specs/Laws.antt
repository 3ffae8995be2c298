-- What is read of a document whose buffers and images are in files of their own (glTF 2.0, sections
-- 3.6.1, 3.6.2 and 3.8.3).
use Rattle.std.specs.Prelude.{◌≡◌, ◌↔◌, ℕ, List, length, Option, Some, None, slice_get, option_map}
use Rattle.std.specs.Prelude.{map}
use Rattle.std.specs.Prelude.{string_bytes}
use Rattle.serde_json.specs.Data.{Data}
use Rattle.gltf_json.specs.Documents.{root}
use Rattle.gltf_json.specs.declared.root.Root.{Root}
use Rattle.gltf_json_geometry.specs.declared.buffer.Buffer.{Buffer}
use Rattle.gltf_json_scene.specs.declared.image.Image.{Image}
use Rattle.gltf_items.specs.declared.item.Item.{Ghosts}
use Rattle.gltf_data.specs.Documents.{ReadsAt}
use Rattle.gltf_names.specs.Named.{Named, Relative}
use Rattle.gltf_buffers.specs.Buffers.{sources_of, AreBytes}
use Rattle.gltf_buffers.specs.Names.{Held}
use Rattle.gltf_buffers.specs.Padding.{padded}
use Rattle.gltf_buffers.specs.Uri as uri
use Rattle.gltf_detach.specs.Detached.{detached}
use Rattle.gltf_detach.specs.Naming.{uri_of_part}
use Rattle.gltf_detach.specs.declared.part.Part.{Part}

-- s is the document r, whose buffers and images have these URIs, where they have some here
pub record IsDetached (us vs : List (Option (List ℕ))) (r s : Root) : Type 0 where
  pub value : Data
  pub before : root.is value r
  pub after : root.is (detached us vs value) s

-- it has the same items at each accessor, by the same answers for its buffers
abbrev pub KeepsItems : {X : Type 0} → Ghosts X → Type 0
KeepsItems {X} t =
    (us vs : List (Option (List ℕ))) (r s : Root) → IsDetached us vs r s
    → (answer : ℕ → Option (List ℕ)) (index : ℕ) (result : Option (List X))
    → ReadsAt t r answer index result ↔ ReadsAt t s answer index result

-- buffer i of s has this URI, and declares as many bytes
pub record IsNamed (u : List ℕ) (b : Buffer) (s : Root) (i : ℕ) : Type 0 where
  pub buffer : Buffer
  pub there : slice_get s.buffers.items i ≡ Some buffer
  pub uri : option_map string_bytes buffer.uri ≡ Some u
  pub long : buffer.byte_length ≡ b.byte_length

-- as many buffers, and each that has a URI here
pub record AreNamed (us : List (Option (List ℕ))) (r s : Root) : Type 0 where
  pub count : length s.buffers.items ≡ length r.buffers.items
  pub each : (i : ℕ) (b : Buffer) → slice_get r.buffers.items i ≡ Some b
      → (u : List ℕ) → slice_get us i ≡ Some (Some u) → IsNamed u b s i

abbrev pub NamesBuffers : Type 0
NamesBuffers =
    (us vs : List (Option (List ℕ))) (r s : Root) → IsDetached us vs r s → AreNamed us r s

-- image i of s has this URI, no view, and its media type
pub record IsNamedImage (u : List ℕ) (x : Image) (s : Root) (i : ℕ) : Type 0 where
  pub image : Image
  pub there : slice_get s.images.items i ≡ Some image
  pub uri : option_map string_bytes image.uri ≡ Some u
  pub no_view : image.buffer_view ≡ None
  pub type : option_map string_bytes image.mime_type ≡ option_map string_bytes x.mime_type

abbrev pub NamesImages : Type 0
NamesImages =
    (us vs : List (Option (List ℕ))) (r s : Root) → IsDetached us vs r s
    → (i : ℕ) (x : Image) → slice_get r.images.items i ≡ Some x
    → (u : List ℕ) → slice_get vs i ≡ Some (Some u) → IsNamedImage u x s i

-- ---- files

-- the URI of each file leads to its name
abbrev pub LeadToNames : Type 0
LeadToNames = (p : Part) → uri.uri_of (uri_of_part p) ≡ uri.Relative (string_bytes p.name)

-- a source has the bytes of a file by its name
abbrev pub HoldsPart : (Named → Option (List ℕ)) → Part → Type 0
HoldsPart there p = there (Relative (string_bytes p.name)) ≡ Some p.bytes.items

-- buffer i has this URI
pub record HasUri (s : Root) (i : ℕ) (u : List ℕ) : Type 0 where
  pub buffer : Buffer
  pub there : slice_get s.buffers.items i ≡ Some buffer
  pub uri : option_map string_bytes buffer.uri ≡ Some u

abbrev pub padded_part : Part → List ℕ
padded_part p = padded p.bytes.items

-- where each buffer of a document names its file, and a source has these, the document is imported
-- with their bytes
abbrev pub ReadsFiles : Type 0
ReadsFiles =
    (ps : List Part) (s : Root) → length s.buffers.items ≡ length ps
    → ((i : ℕ) (p : Part) → slice_get ps i ≡ Some p → HasUri s i (uri_of_part p))
    → (there : Named → Option (List ℕ))
    → ((i : ℕ) (p : Part) → slice_get ps i ≡ Some p → HoldsPart there p)
    → (blob : Option (List ℕ)) (others : List (List ℕ))
    → AreBytes (Held there) (sources_of s) blob (length (sources_of s)) others
    → others ≡ map padded_part ps
