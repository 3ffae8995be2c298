-- Texts of records besides their names (glTF 2.0, sections 5.9, 5.10 and 5.18).
use Rattle.std.specs.Prelude.{ℕ, ◌==◌, List, [], ◌∷◌, slice_get, Option, Some, None}
use Rattle.std.specs.Prelude.{option_map, if◌then◌else◌}
use Rattle.std.specs.Option.{option_and_then}
use Rattle.std.specs.String.{string_bytes}
use Rattle.gltf_json.specs.declared.root.Root.{Root}
use Rattle.gltf_json_scene.specs.declared.asset.Asset.{Asset}
use Rattle.gltf_handles.specs.Members.{text}
use Rattle.gltf_c_look.specs.declared.text.TextMember.{TextMember}
use Rattle.gltf_c_look.specs.declared.text.TextMember.TheVariants.{BufferUri, ImageUri}
use Rattle.gltf_c_look.specs.declared.text.TextMember.TheVariants.{ImageMimeType}
use Rattle.gltf_c_look.specs.declared.text.TextMember.TheVariants.{Version, MinVersion, Generator}
use Rattle.gltf_c_look.specs.declared.text.TextMember.TheVariants.{Copyright}

-- the text of each number from 0 on
abbrev pub text_kind_of : ℕ → Option TextMember
text_kind_of number =
    slice_get (BufferUri ∷ ImageUri ∷ ImageMimeType ∷ Version ∷ MinVersion ∷ Generator ∷ Copyright
    ∷ []) number

-- the asset, which is at index 0
abbrev pub asset_at : ℕ → Root → Option Asset
asset_at index r = if index == 0 then Some r.asset else None

abbrev pub text_in : TextMember → ℕ → Root → Option (List ℕ)
text_in BufferUri index r = option_and_then (λ b. text b.uri) (slice_get r.buffers.items index)
text_in ImageUri index r = option_and_then (λ i. text i.uri) (slice_get r.images.items index)
text_in ImageMimeType index r =
    option_and_then (λ i. text i.mime_type) (slice_get r.images.items index)
text_in Version index r = option_map (λ a. string_bytes a.version) (asset_at index r)
text_in MinVersion index r = option_and_then (λ a. text a.min_version) (asset_at index r)
text_in Generator index r = option_and_then (λ a. text a.generator) (asset_at index r)
text_in Copyright index r = option_and_then (λ a. text a.copyright) (asset_at index r)

abbrev pub text_of : ℕ → ℕ → Root → Option (List ℕ)
text_of number index r = option_and_then (λ t. text_in t index r) (text_kind_of number)
