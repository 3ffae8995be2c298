-- The targets of views (glTF 2.0, section 3.6.1): "When a buffer view is used by vertex indices or
-- attribute accessors it SHOULD specify bufferView.target".
use Rattle.std.specs.Prelude.{ℕ, ◌+◌, Bool, ◌||◌, not, is_some, length, slice_get, flat_map, codes}
use Rattle.std.specs.Prelude.{List, [], ◌∷◌, ◌++◌, Option, Some, None}
use Rattle.gltf_json.specs.declared.root.Root.{Root}
use Rattle.gltf_json_record.specs.Place.{numbered}
use Rattle.gltf_json_geometry.specs.declared.accessor.Accessor.{Accessor}
use Rattle.gltf_json_geometry.specs.declared.buffer.View.{View}
use Rattle.gltf_json_geometry.specs.declared.mesh.Mesh.{Mesh}
use Rattle.gltf_json_geometry.specs.declared.mesh.MorphTarget.{MorphTarget}
use Rattle.gltf_json_geometry.specs.declared.mesh.Primitive.{Primitive}
use Rattle.gltf_json_geometry.specs.declared.semantic.Semantic.{Semantic}
use Rattle.gltf_findings.specs.declared.code.Code.TheVariants.{ViewTargetMissing}
use Rattle.gltf_findings.specs.Checks.{Checks, Nothing, Condition, At, ◌&◌, member}
use Rattle.gltf_inspect_nodes.specs.Named.{is_named}

abbrev pub listed : Option ℕ → List ℕ
listed None = []
listed (Some n) = n ∷ []

abbrev pub view_of : Option Accessor → List ℕ
view_of None = []
view_of (Some a) = listed a.buffer_view

-- the view of the accessor at an index
abbrev pub view_at : List Accessor → ℕ → List ℕ
view_at accessors i = view_of (slice_get accessors i)

abbrev pub optional_views : List Accessor → Option ℕ → List ℕ
optional_views accessors None = []
optional_views accessors (Some i) = view_at accessors i

abbrev pub entries_views : List Accessor → List (Semantic × ℕ) → List ℕ
entries_views accessors [] = []
entries_views accessors (entry ∷ entries) =
    view_at accessors entry.1 ++ entries_views accessors entries

abbrev pub target_views : List Accessor → MorphTarget → List ℕ
target_views accessors t =
    optional_views accessors t.positions
    ++ optional_views accessors t.normals
    ++ optional_views accessors t.tangents

-- of the indices, the attributes and the displacements of a primitive
abbrev pub primitive_views : List Accessor → Primitive → List ℕ
primitive_views accessors p =
    optional_views accessors p.indices
    ++ entries_views accessors p.attributes.entries
    ++ flat_map (target_views accessors) p.targets.items

abbrev pub mesh_views : List Accessor → Mesh → List ℕ
mesh_views accessors m = flat_map (primitive_views accessors) m.primitives.items

-- all views of vertices and their indices
abbrev pub vertex_views : Root → List ℕ
vertex_views r = flat_map (mesh_views r.accessors.items) r.meshes.items

abbrev pub view_checks : Bool → View → Checks
view_checks is_of_vertices v = Condition (is_some v.target || not is_of_vertices) ViewTargetMissing

-- from the view i on
abbrev pub views_checks : (ℕ → Bool) → ℕ → List View → Checks
views_checks is_of_vertices i [] = Nothing
views_checks is_of_vertices i (v ∷ vs) =
    At (numbered i) (view_checks (is_of_vertices i) v)
    & views_checks is_of_vertices (i + 1) vs

abbrev pub view_count : Root → ℕ
view_count r = length r.buffer_views.items

abbrev pub is_vertex_view : Root → ℕ → Bool
is_vertex_view r = is_named (view_count r) (vertex_views r)

abbrev pub view_targets_checks : Root → Checks
view_targets_checks r =
    member (codes "bufferViews") (views_checks (is_vertex_view r) 0 r.buffer_views.items)
