-- Materials of variants that a document does not have (KHR_materials_variants): no rule of the
-- loader looks at these indices.
use Rattle.std.specs.Prelude.{ℕ, ◌+◌, List, [], ◌∷◌, length, Option, Some, None, option_map, nat_lt}
use Rattle.std.specs.Prelude.{if◌then◌else◌, codes}
use Rattle.std.specs.Option.{option_and_then}
use Rattle.gltf_json.specs.declared.root.Root.{Root}
use Rattle.gltf_json_geometry.specs.declared.extensions.mesh.Mapping.{Mapping}
use Rattle.gltf_json_record.specs.Place.{Place, named, numbered}
use Rattle.gltf_scene.specs.Primitives.{mappings_of}
use Rattle.gltf_c_fault.specs.Fault.{extension_fault}
use Rattle.gltf_c_fault.specs.declared.fault.GltfFault.{GltfFault}
use Rattle.gltf_c_scene.specs.Meshes.{has_number, primitive_of}

-- the position of the first mapping that has a variant, from position i on, where its material is
-- none of so many
abbrev pub stray : ℕ → ℕ → ℕ → List Mapping → Option ℕ
stray count variant i [] = None
stray count variant i (m ∷ ms) =
    if has_number variant m.variants.items then (if nat_lt m.material count then None else Some i)
    else stray count variant (i + 1) ms

-- where the material of a mapping stands
abbrev pub mapping_place : ℕ → ℕ → ℕ → List Place
mapping_place mesh primitive mapping =
    named (codes "meshes") ∷ numbered mesh ∷ named (codes "primitives") ∷ numbered primitive
    ∷ named (codes "extensions") ∷ named (codes "KHR_materials_variants")
    ∷ named (codes "mappings") ∷ numbered mapping ∷ named (codes "material") ∷ []

-- the fault of a mapping
abbrev pub mapping_fault : ℕ → ℕ → ℕ → GltfFault
mapping_fault mesh primitive mapping =
    extension_fault (mapping_place mesh primitive mapping)
    (codes "the document has no material with this index")

-- the fault of the material of a primitive under a variant, where it has one
abbrev pub variant_fault_of : ℕ → ℕ → ℕ → Root → Option GltfFault
variant_fault_of mesh index variant r =
    option_map (mapping_fault mesh index) (option_and_then
    (λ p. stray (length r.materials.items) variant 0 (mappings_of p.extensions))
    (primitive_of mesh index r))
