-- The sets of texture coordinates that a material takes from a primitive (glTF 2.0, sections 3.9.2
-- and 5.30): "an integer value [..] n in TEXCOORD_n".
use Rattle.std.specs.Prelude.{ℕ, ◌==◌, ◌&&◌, ◌||◌, Bool, true, false, slice_get, codes}
use Rattle.std.specs.Prelude.{List, [], ◌∷◌, Option, Some, None, unwrap_or, option_map}
use Rattle.std.specs.BTreeMap.{get_by_text}
use Rattle.std.specs.Option.{option_and_then}
use Rattle.serde_json.specs.Data.{Data}
use Rattle.serde_json.specs.Find.{get, as_number, as_u64}
use Rattle.serde_json.specs.View.{view}
use Rattle.gltf_json.specs.declared.root.Root.{Root}
use Rattle.gltf_json_geometry.specs.declared.mesh.Primitive.{Primitive}
use Rattle.gltf_json_geometry.specs.declared.semantic.Semantic.{Semantic}
use Rattle.gltf_json_material.specs.declared.extensions.material.Material as extended
use Rattle.gltf_json_material.specs.declared.extensions.material.PbrSpecularGlossiness.{
  PbrSpecularGlossiness,
}
use Rattle.gltf_json_material.specs.declared.extensions.material.Specular.{Specular}
use Rattle.gltf_json_material.specs.declared.extensions.material.Transmission.{Transmission}
use Rattle.gltf_json_material.specs.declared.extensions.material.Volume.{Volume}
use Rattle.gltf_json_material.specs.declared.extensions.texture.Info as moved
use Rattle.gltf_json_material.specs.declared.extensions.texture.TextureTransform.{TextureTransform}
use Rattle.gltf_json_material.specs.declared.material.Material.{Material}
use Rattle.gltf_json_material.specs.declared.material.NormalTexture.{NormalTexture}
use Rattle.gltf_json_material.specs.declared.material.OcclusionTexture.{OcclusionTexture}
use Rattle.gltf_json_material.specs.declared.material.PbrMetallicRoughness.{PbrMetallicRoughness}
use Rattle.gltf_json_material.specs.declared.texture.Info.{Info}
use Rattle.gltf_json_record.specs.declared.extensions.Others.{Others}
use Rattle.gltf_findings.specs.declared.code.Code.TheVariants.{TooFewTexcoords}
use Rattle.gltf_findings.specs.Checks.{Checks, Condition, member, optional_checks}
use Rattle.gltf_inspect_meshes.specs.Meanings.{meaning_number, set_number}

-- there is an attribute TEXCOORD_n
abbrev pub has_coords : List (Semantic × ℕ) → ℕ → Bool
has_coords [] n = false
has_coords (entry ∷ entries) n =
    meaning_number entry.0 == 5 && set_number entry.0 == n || has_coords entries n

-- a member that is absent asks for nothing
abbrev pub holds_of : {T : Type 0} → (T → Bool) → Option T → Bool
holds_of f None = true
holds_of f (Some x) = f x

-- texCoord of KHR_texture_transform "overrides the textureInfo texCoord value if supplied"
abbrev pub transform_set : ℕ → Option TextureTransform → ℕ
transform_set set None = set
transform_set set (Some t) = unwrap_or t.tex_coord set

abbrev pub moved_set : ℕ → Option moved.Info → ℕ
moved_set set None = set
moved_set set (Some e) = transform_set set e.texture_transform

-- the set that the use of a texture names
abbrev pub info_set : Info → ℕ
info_set i = moved_set i.tex_coord i.extensions

abbrev pub fits_info : List (Semantic × ℕ) → Info → Bool
fits_info entries i = has_coords entries (info_set i)

-- the set that a JSON value is: none, where it is no whole number
abbrev pub set_of : Data → Option ℕ
set_of d = option_and_then as_u64 (as_number d)

-- texCoord of KHR_texture_transform among extensions that are kept as JSON
abbrev pub kept_coord : Option Others → Option Data
kept_coord extensions =
    option_and_then (get (codes "texCoord")) (option_map view (option_and_then
    (λ e. get_by_text e.others (codes "KHR_texture_transform")) extensions))

-- it counts where it is there. Of one that is no set nothing is found
abbrev pub fits_moved : List (Semantic × ℕ) → ℕ → Option Data → Bool
fits_moved entries set None = has_coords entries set
fits_moved entries set (Some d) = holds_of (has_coords entries) (set_of d)

abbrev pub fits_normal : List (Semantic × ℕ) → NormalTexture → Bool
fits_normal entries t = fits_moved entries t.tex_coord (kept_coord t.extensions)

abbrev pub fits_occlusion : List (Semantic × ℕ) → OcclusionTexture → Bool
fits_occlusion entries t = fits_moved entries t.tex_coord (kept_coord t.extensions)

abbrev pub fits_metallic : List (Semantic × ℕ) → PbrMetallicRoughness → Bool
fits_metallic entries p =
    holds_of (fits_info entries) p.base_color_texture
    && holds_of (fits_info entries) p.metallic_roughness_texture

abbrev pub fits_glossiness : List (Semantic × ℕ) → PbrSpecularGlossiness → Bool
fits_glossiness entries p =
    holds_of (fits_info entries) p.diffuse_texture
    && holds_of (fits_info entries) p.specular_glossiness_texture

abbrev pub fits_transmission : List (Semantic × ℕ) → Transmission → Bool
fits_transmission entries t = holds_of (fits_info entries) t.transmission_texture

abbrev pub fits_volume : List (Semantic × ℕ) → Volume → Bool
fits_volume entries v = holds_of (fits_info entries) v.thickness_texture

abbrev pub fits_specular : List (Semantic × ℕ) → Specular → Bool
fits_specular entries s =
    holds_of (fits_info entries) s.specular_texture
    && holds_of (fits_info entries) s.specular_color_texture

abbrev pub fits_extensions : List (Semantic × ℕ) → extended.Material → Bool
fits_extensions entries e =
    holds_of (fits_glossiness entries) e.pbr_specular_glossiness
    && holds_of (fits_transmission entries) e.transmission
    && holds_of (fits_volume entries) e.volume
    && holds_of (fits_specular entries) e.specular

-- the primitive has each set that the material uses
abbrev pub fits_material : List (Semantic × ℕ) → Material → Bool
fits_material entries m =
    holds_of (fits_metallic entries) m.pbr_metallic_roughness
    && holds_of (fits_normal entries) m.normal_texture
    && holds_of (fits_occlusion entries) m.occlusion_texture
    && holds_of (fits_info entries) m.emissive_texture
    && holds_of (fits_extensions entries) m.extensions

abbrev pub coords_checks : List (Semantic × ℕ) → Material → Checks
coords_checks entries m = Condition (fits_material entries m) TooFewTexcoords

abbrev pub coords_index_checks : Root → List (Semantic × ℕ) → ℕ → Checks
coords_index_checks r entries i =
    optional_checks (coords_checks entries) (slice_get r.materials.items i)

abbrev pub material_checks : Root → Primitive → Checks
material_checks r p =
    member (codes "material")
    (optional_checks (coords_index_checks r p.attributes.entries) p.material)
