-- The extensions that are read here, by their names in glTF.
use Rattle.std.specs.Prelude.{codes, ℕ, List, [], ◌∷◌}

abbrev pub supported_names : List (List ℕ)
supported_names =
    codes "EXT_mesh_gpu_instancing"
    ∷ codes "EXT_meshopt_compression"
    ∷ codes "EXT_texture_webp"
    ∷ codes "KHR_animation_pointer"
    ∷ codes "KHR_materials_anisotropy"
    ∷ codes "KHR_materials_clearcoat"
    ∷ codes "KHR_materials_diffuse_transmission"
    ∷ codes "KHR_materials_dispersion"
    ∷ codes "KHR_materials_iridescence"
    ∷ codes "KHR_materials_sheen"
    ∷ codes "KHR_mesh_quantization"
    ∷ codes "KHR_node_visibility"
    ∷ codes "KHR_texture_basisu"
    ∷ codes "KHR_xmp_json_ld"
    ∷ []
