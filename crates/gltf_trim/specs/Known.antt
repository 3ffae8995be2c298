-- Which extensions name no view and no buffer, and which documents have no others (glTF 2.0,
-- sections 3.12 and 5.15).
use Rattle.std.specs.Prelude.{ℕ, List, [], ◌∷◌, Bool, true, false, Option, Some, None, codes}
use Rattle.std.specs.Prelude.{bytes_eq, if◌then◌else◌}
use Rattle.std.specs.List.{list_any}
use Rattle.serde_json.specs.Data.{Data, null, boolean, number, string, array, object}
use Rattle.serde_json.specs.Data.{Items, no_items, item, Members, no_members, member}
use Rattle.serde_json.specs.Find.{get, as_array, as_str}

-- extensions none of whose members names a buffer or a view
abbrev pub known_extensions : List (List ℕ)
known_extensions =
    codes "EXT_mesh_gpu_instancing"
    ∷ codes "EXT_texture_webp"
    ∷ codes "KHR_animation_pointer"
    ∷ codes "KHR_lights_punctual"
    ∷ codes "KHR_materials_anisotropy"
    ∷ codes "KHR_materials_clearcoat"
    ∷ codes "KHR_materials_diffuse_transmission"
    ∷ codes "KHR_materials_dispersion"
    ∷ codes "KHR_materials_emissive_strength"
    ∷ codes "KHR_materials_ior"
    ∷ codes "KHR_materials_iridescence"
    ∷ codes "KHR_materials_pbrSpecularGlossiness"
    ∷ codes "KHR_materials_sheen"
    ∷ codes "KHR_materials_specular"
    ∷ codes "KHR_materials_transmission"
    ∷ codes "KHR_materials_unlit"
    ∷ codes "KHR_materials_variants"
    ∷ codes "KHR_materials_volume"
    ∷ codes "KHR_mesh_quantization"
    ∷ codes "KHR_node_visibility"
    ∷ codes "KHR_texture_basisu"
    ∷ codes "KHR_texture_transform"
    ∷ codes "KHR_xmp_json_ld"
    ∷ []

abbrev pub is_known : List ℕ → Bool
is_known name = list_any (λ k. bytes_eq name k) known_extensions

-- ---- what a document lists as used

abbrev pub is_known_text : Option (List ℕ) → Bool
is_known_text None = false
is_known_text (Some name) = is_known name

abbrev pub are_known : Items → Bool
are_known no_items = true
are_known (item d ds) = if is_known_text (as_str d) then are_known ds else false

abbrev pub are_known_in : Option Items → Bool
are_known_in None = false
are_known_in (Some ds) = are_known ds

abbrev pub lists_known : Option Data → Bool
lists_known None = true
lists_known (Some e) = are_known_in (as_array e)

-- ---- what stands in a document, whether it is listed or not

abbrev pub names_are_known : Members → Bool
names_are_known no_members = true
names_are_known (member k d ms) = if is_known k then names_are_known ms else false

-- an object, each member of which is an extension that is known
abbrev pub names_known : Data → Bool
names_known null = false
names_known (boolean b) = false
names_known (number n) = false
names_known (string s) = false
names_known (array ds) = false
names_known (object ms) = names_are_known ms

-- what stands at this name is such an object, where the name is that of extensions
abbrev pub names_known_at : List ℕ → Data → Bool
names_known_at k d = if bytes_eq k (codes "extensions") then names_known d else true

-- so is all that stands at this name, however deep
abbrev mutual
  pub has_known : Data → Bool
  has_known null = true
  has_known (boolean b) = true
  has_known (number n) = true
  has_known (string s) = true
  has_known (array ds) = all_have_known ds
  has_known (object ms) = members_have_known ms

  pub all_have_known : Items → Bool
  all_have_known no_items = true
  all_have_known (item d ds) = if has_known d then all_have_known ds else false

  pub members_have_known : Members → Bool
  members_have_known no_members = true
  members_have_known (member k d ms) =
      if names_known_at k d then (if has_known d then members_have_known ms else false) else false

-- a document lists no extension but these as used, and none but these stands in it: nothing but
-- accessors and images names a view
abbrev pub is_plain : Data → Bool
is_plain d = if lists_known (get (codes "extensionsUsed") d) then has_known d else false
