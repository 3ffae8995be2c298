-- The extensions that a document names (glTF 2.0, section 3.12): "all extensions required to load
-- and/or render an asset MUST be listed in the top-level extensionsRequired array", and this is "a
-- subset of extensionsUsed".
use Rattle.std.specs.Prelude.{ℕ, Bool, List, [], ◌∷◌, ◌++◌, ◌+◌, ◌||◌, not, bytes_eq, codes}
use Rattle.std.specs.String.{string_bytes}
use Rattle.std.specs.declared.string.String.{String}
use Rattle.std.specs.declared.alloc.Global.{Global}
use Rattle.gltf_json_record.specs.Member.{is_one_of}
use Rattle.gltf_json_record.specs.Place.{numbered}
use Rattle.gltf_validation.specs.Documents.{supported_extensions}
use Rattle.gltf_findings.specs.declared.code.Code.TheVariants.{UnsupportedExtension}
use Rattle.gltf_findings.specs.declared.code.Code.TheVariants.{DuplicateElements}
use Rattle.gltf_findings.specs.declared.code.Code.TheVariants.{UnusedExtensionRequired}
use Rattle.gltf_findings.specs.Checks.{Checks, Nothing, Condition, At, ◌&◌, list_checks}
use Rattle.gltf_inspect_meshes.specs.Names.{is_among}

-- the extensions that are not read with the document, but out of its JSON values by the crate
-- gltf_extensions; of these, KHR_mesh_quantization is applied to the formats of attributes here
abbrev pub other_extensions : List (List ℕ)
other_extensions =
    codes "EXT_mesh_gpu_instancing"
    ∷ codes "EXT_meshopt_compression"
    ∷ codes "EXT_texture_webp"
    ∷ codes "KHR_animation_pointer"
    ∷ codes "KHR_materials_anisotropy"
    ∷ codes "KHR_materials_clearcoat"
    ∷ codes "KHR_materials_diffuse_transmission"
    ∷ codes "KHR_materials_dispersion"
    ∷ codes "KHR_materials_iridescence"
    ∷ codes "KHR_materials_sheen"
    ∷ codes "KHR_mesh_quantization"
    ∷ codes "KHR_node_visibility"
    ∷ codes "KHR_texture_basisu"
    ∷ codes "KHR_xmp_json_ld"
    ∷ []

abbrev pub is_read : List ℕ → Bool
is_read name = is_one_of supported_extensions name || is_one_of other_extensions name

abbrev pub used_name_checks : String Global → Checks
used_name_checks name = Condition (is_read (string_bytes name)) UnsupportedExtension

abbrev pub used_checks : List (String Global) → Checks
used_checks used = list_checks used_name_checks used

-- is_used : whether extensionsUsed has a name
abbrev pub required_name_checks : (List ℕ → Bool) → String Global → Checks
required_name_checks is_used name =
    Condition (is_used (string_bytes name)) UnusedExtensionRequired

abbrev pub required_checks : List (String Global) → List (String Global) → Checks
required_checks used required = list_checks (required_name_checks (is_among used)) required

-- each name is there once (section 5.17): none from k on is one of before, or of those that stand
-- in front of it
abbrev pub unique_checks : List (String Global) → ℕ → List (String Global) → Checks
unique_checks before k [] = Nothing
unique_checks before k (name ∷ names) =
    At (numbered k) (Condition (not (is_among before (string_bytes name))) DuplicateElements)
    & unique_checks (before ++ name ∷ []) (k + 1) names

-- the same by what is known to stand in front
abbrev pub unseen_checks : (List ℕ → Bool) → ℕ → List (String Global) → Checks
unseen_checks is_seen k [] = Nothing
unseen_checks is_seen k (name ∷ names) =
    At (numbered k) (Condition (not (is_seen (string_bytes name))) DuplicateElements)
    & unseen_checks (λ q. is_seen q || bytes_eq q (string_bytes name)) (k + 1) names
