-- What a document holds (glTF 2.0, section 3.7.2, "Meshes"): primitives, their vertices, and morph
-- targets.
use Rattle.std.specs.Prelude.{ℕ, ◌-◌, ◌^◌, ◌==◌, min, Bool, not, List, vec_len}
use Rattle.std.specs.List.{list_any, sum_by}
use Rattle.gltf_json.specs.declared.root.Root.{Root}
use Rattle.gltf_json_geometry.specs.declared.accessor.Accessor.{Accessor}
use Rattle.gltf_json_geometry.specs.declared.mesh.Mesh.{Mesh}
use Rattle.gltf_json_geometry.specs.declared.mesh.Primitive.{Primitive}
use Rattle.gltf_json_geometry.specs.declared.semantic.Semantic.TheVariants as meaning
use Rattle.gltf_inspect_meshes.specs.Facts.{or_zero}
use Rattle.gltf_inspect_meshes.specs.Meanings.{meaning_number, first_of, count_of_index}

-- the morph targets of a primitive are its `targets` (section 3.7.2.2, "Morph Targets"): it has one
abbrev pub is_morphed : Primitive → Bool
is_morphed p = not (vec_len p.targets == 0)

-- some primitive of the mesh has one
abbrev pub has_morphed : Mesh → Bool
has_morphed m = list_any is_morphed m.primitives.items

-- some primitive of some mesh has one
abbrev pub has_morph_targets : Root → Bool
has_morph_targets root = list_any has_morphed root.meshes.items

-- a sum, or where 64 bits do not hold it the greatest number that they hold
abbrev pub in_64_bits : ℕ → ℕ
in_64_bits n = min n (2 ^ 64 - 1)

-- how many primitives the meshes have
abbrev pub primitive_count : Root → ℕ
primitive_count root = sum_by (λ m. vec_len m.primitives) root.meshes.items

-- a primitive has as many vertices as the accessor of its positions has items (section 3.7.2.1,
-- "Meshes: Overview"), and none where there is no such accessor
abbrev pub vertex_count : List Accessor → Primitive → ℕ
vertex_count accessors p =
    or_zero
    (count_of_index accessors (first_of (meaning_number meaning.Positions) p.attributes.entries))

abbrev pub mesh_vertex_count : List Accessor → Mesh → ℕ
mesh_vertex_count accessors m = sum_by (vertex_count accessors) m.primitives.items

-- how many vertices the primitives of all meshes have
abbrev pub total_vertex_count : Root → ℕ
total_vertex_count root = sum_by (mesh_vertex_count root.accessors.items) root.meshes.items
