-- Meshes and their primitives, as C sees them (glTF 2.0, section 3.7).
use Rattle.std.specs.Prelude.{ℕ, Bool, false, ◌==◌, List, [], ◌∷◌, length, slice_get}
use Rattle.std.specs.Prelude.{Option, Some, None, option_map, if◌then◌else◌, ◌||◌}
use Rattle.std.specs.Option.{option_and_then}
use Rattle.gltf_json.specs.declared.root.Root.{Root}
use Rattle.gltf_json_geometry.specs.declared.mesh.Mesh.{Mesh}
use Rattle.gltf_json_geometry.specs.declared.mesh.Mode.{Mode}
use Rattle.gltf_json_geometry.specs.declared.mesh.Mode.TheVariants.{Points, Lines, LineLoop}
use Rattle.gltf_json_geometry.specs.declared.mesh.Mode.TheVariants.{LineStrip, Triangles}
use Rattle.gltf_json_geometry.specs.declared.mesh.Mode.TheVariants.{TriangleStrip, TriangleFan}
use Rattle.gltf_json_geometry.specs.declared.mesh.Primitive.{Primitive}
use Rattle.gltf_json_geometry.specs.declared.extensions.mesh.Mapping.{Mapping}
use Rattle.gltf_handles.specs.Sizes.{code_of}
use Rattle.gltf_scene.specs.Primitives.{mappings_of}
use Rattle.gltf_c_scene.specs.Values.{index_or_none, listed_numbers}
use Rattle.gltf_c_scene.specs.declared.mesh.GltfMesh.{GltfMesh}
use Rattle.gltf_c_scene.specs.declared.mesh.GltfPrimitive.{GltfPrimitive}

-- what C sees of a mesh (section 5.23)
abbrev pub shown_mesh : Mesh → GltfMesh
shown_mesh m = record {
  primitives = length m.primitives.items;
  weights = length (listed_numbers m.weights);
  reserved = 0 ∷ 0 ∷ [];
}

abbrev pub shown_mesh_of : ℕ → Root → Option GltfMesh
shown_mesh_of index r = option_map shown_mesh (slice_get r.meshes.items index)

-- a primitive of a mesh
abbrev pub primitive_of : ℕ → ℕ → Root → Option Primitive
primitive_of mesh index r =
    option_and_then (λ m. slice_get m.primitives.items index) (slice_get r.meshes.items mesh)

-- the number of a mode (section 5.24.4)
abbrev pub mode_number : Mode → ℕ
mode_number Points = 0
mode_number Lines = 1
mode_number LineLoop = 2
mode_number LineStrip = 3
mode_number Triangles = 4
mode_number TriangleStrip = 5
mode_number TriangleFan = 6

-- what C sees of a primitive (section 5.24)
abbrev pub shown_primitive : Primitive → GltfPrimitive
shown_primitive p = record {
  mode = code_of mode_number p.mode;
  reserved_word = 0;
  indices = index_or_none p.indices;
  material = index_or_none p.material;
  attributes = length p.attributes.entries;
  targets = length p.targets.items;
  reserved = 0 ∷ 0 ∷ [];
}

abbrev pub shown_primitive_of : ℕ → ℕ → Root → Option GltfPrimitive
shown_primitive_of mesh index r = option_map shown_primitive (primitive_of mesh index r)

-- whether a list has a number
abbrev pub has_number : ℕ → List ℕ → Bool
has_number n [] = false
has_number n (x ∷ xs) = (x == n) || has_number n xs

-- the material of the first mapping that has a variant (KHR_materials_variants)
abbrev pub mapped : ℕ → List Mapping → Option ℕ
mapped variant [] = None
mapped variant (m ∷ ms) =
    if has_number variant m.variants.items then Some m.material else mapped variant ms

abbrev pub variant_material_of : ℕ → ℕ → ℕ → Root → Option ℕ
variant_material_of mesh index variant r =
    option_and_then (λ p. mapped variant (mappings_of p.extensions)) (primitive_of mesh index r)
