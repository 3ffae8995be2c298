-- The checks of the items of a document where some accessors are left out: nothing is said of the
-- indices that these have.
use Rattle.std.specs.Prelude.{ℕ, if◌then◌else◌, Bool, false, List, Option, slice_get, unwrap_or}
use Rattle.std.specs.Prelude.{codes}
use Rattle.gltf_json.specs.declared.root.Root.{Root}
use Rattle.gltf_json_geometry.specs.declared.mesh.Mesh.{Mesh}
use Rattle.gltf_json_geometry.specs.declared.mesh.Primitive.{Primitive}
use Rattle.gltf_findings.specs.Checks.{Checks, Nothing, member, optional_checks, list_checks}
use Rattle.gltf_inspect_items.specs.Attributes.{vertex_count}
use Rattle.gltf_inspect_items.specs.Indices.{are_triangles, index_checks}
use Rattle.gltf_inspect_items.specs.Reading.{Bytes}

-- by marks, whether the accessor at an index is left out: none is behind the last mark
abbrev pub is_out : List Bool → ℕ → Bool
is_out marks i = unwrap_or (slice_get marks i) false

abbrev pub index_checks_but : (ℕ → Bool) → Root → Bytes → Option ℕ → Bool → ℕ → Checks
index_checks_but out r bytes vertices triangles i =
    if out i then Nothing else index_checks r bytes vertices triangles i

abbrev pub primitive_checks_but : (ℕ → Bool) → Root → Bytes → Primitive → Checks
primitive_checks_but out r bytes p =
    member (codes "indices") (optional_checks
    (index_checks_but out r bytes (vertex_count r.accessors.items p.attributes.entries)
    (are_triangles p.mode)) p.indices)

abbrev pub mesh_checks_but : (ℕ → Bool) → Root → Bytes → Mesh → Checks
mesh_checks_but out r bytes m =
    member (codes "primitives") (list_checks (primitive_checks_but out r bytes) m.primitives.items)

abbrev pub items_checks_but : (ℕ → Bool) → Root → Bytes → Checks
items_checks_but out r bytes =
    member (codes "meshes") (list_checks (mesh_checks_but out r bytes) r.meshes.items)
