use Rattle.std.proofs.Common.{◌≡◌, take}
use Rattle.std.specs.List.{sum_by}
use Rattle.gltf_report_json.specs.Held.{in_64_bits, mesh_vertex_count}
use Rattle.gltf_report_json.proofs.info.vertices.Given as goal

-- those of the meshes so far
abbrev pub invariant-loop-mesh : goal.invariant-loop-mesh
invariant-loop-mesh l =
    l.vertices
    ≡ in_64_bits
    (sum_by (mesh_vertex_count l.root.accessors.items) (take l.mesh-index l.mesh-items))
