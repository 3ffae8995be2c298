-- The views of vertices by marks: of each view, whether it was named.
use Rattle.std.specs.Prelude.{ℕ, Bool, List, [], ◌∷◌, Option}
use Rattle.gltf_json_geometry.specs.declared.accessor.Accessor.{Accessor}
use Rattle.gltf_json_geometry.specs.declared.mesh.Mesh.{Mesh}
use Rattle.gltf_json_geometry.specs.declared.mesh.MorphTarget.{MorphTarget}
use Rattle.gltf_json_geometry.specs.declared.mesh.Primitive.{Primitive}
use Rattle.gltf_json_geometry.specs.declared.semantic.Semantic.{Semantic}
use Rattle.gltf_inspect_nodes.specs.Marks.{marked}
use Rattle.gltf_inspect_nodes.specs.ViewTargets.{view_at, optional_views}

-- with marks at the views of these
abbrev pub optional_marked : List Accessor → List Bool → Option ℕ → List Bool
optional_marked accessors marks index = marked marks (optional_views accessors index)

abbrev pub entries_marked : List Accessor → List Bool → List (Semantic × ℕ) → List Bool
entries_marked accessors marks [] = marks
entries_marked accessors marks (entry ∷ entries) =
    entries_marked accessors (marked marks (view_at accessors entry.1)) entries

abbrev pub target_marked : List Accessor → List Bool → MorphTarget → List Bool
target_marked accessors marks t =
    optional_marked accessors
    (optional_marked accessors (optional_marked accessors marks t.positions) t.normals)
    t.tangents

abbrev pub targets_marked : List Accessor → List Bool → List MorphTarget → List Bool
targets_marked accessors marks [] = marks
targets_marked accessors marks (t ∷ ts) =
    targets_marked accessors (target_marked accessors marks t) ts

abbrev pub primitive_marked : List Accessor → List Bool → Primitive → List Bool
primitive_marked accessors marks p =
    targets_marked accessors
    (entries_marked accessors (optional_marked accessors marks p.indices) p.attributes.entries)
    p.targets.items

abbrev pub primitives_marked : List Accessor → List Bool → List Primitive → List Bool
primitives_marked accessors marks [] = marks
primitives_marked accessors marks (p ∷ ps) =
    primitives_marked accessors (primitive_marked accessors marks p) ps

abbrev pub meshes_marked : List Accessor → List Bool → List Mesh → List Bool
meshes_marked accessors marks [] = marks
meshes_marked accessors marks (m ∷ ms) =
    meshes_marked accessors (primitives_marked accessors marks m.primitives.items) ms
