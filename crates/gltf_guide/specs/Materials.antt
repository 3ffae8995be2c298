-- What the examples say of materials (glTF 2.0, section 5.19, "Material").
use Rattle.std.specs.Prelude.{ℕ, List, ◌++◌, Option, unwrap_or, option_map, codes}
use Rattle.std.specs.Fmt.{decimal}
use Rattle.serde_json.specs.declared.value.Value.{Value}
use Rattle.gltf_json_record.specs.Place.{path_text}
use Rattle.gltf_json_material.specs.declared.material.Material.{Material}
use Rattle.gltf_handles.specs.Members.{extension_named}
use Rattle.gltf_material.specs.Defaults.{default_pbr_metallic_roughness}
use Rattle.gltf_numbers.specs.Materials.{pbr_numbers}
use Rattle.gltf_numbers.specs.declared.material.PbrMetallicRoughness.{PbrMetallicRoughness}
use Rattle.gltf_uses.specs.Textures.{slot_places}
use Rattle.gltf_uses.specs.declared.material_textures.TextureUse.{TextureUse}

-- the numbers of its base colour, metalness and roughness, with their defaults; none where one is
-- there and is no number, or no list of as many as it has to have (section 5.22)
abbrev pub surface_numbers : Material → Option PbrMetallicRoughness
surface_numbers m =
    pbr_numbers (unwrap_or m.pbr_metallic_roughness default_pbr_metallic_roughness)

-- the JSON value of its extension of this name, of those that the loader does not read
abbrev pub unread_extension : List ℕ → Material → Option Value
unread_extension name m = extension_named name (option_map (λ e. e.others) m.extensions)

-- a line for a use of a texture: the member, the texture and its set of coordinates
abbrev pub line_of : TextureUse → List ℕ
line_of used =
    path_text (slot_places used.slot) ++ (codes " " ++ (decimal used.texture
    ++ (codes " " ++ (decimal used.tex_coord ++ codes "\n"))))
