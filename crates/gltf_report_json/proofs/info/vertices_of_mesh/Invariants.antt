use Rattle.std.proofs.Common.{◌≡◌, take}
use Rattle.std.specs.List.{sum_by}
use Rattle.gltf_report_json.specs.Held.{in_64_bits, vertex_count}
use Rattle.gltf_report_json.proofs.info.vertices_of_mesh.Given as goal

-- those of the primitives so far
abbrev pub invariant-loop-primitive : goal.invariant-loop-primitive
invariant-loop-primitive l =
    l.vertices
    ≡ in_64_bits
    (sum_by (vertex_count l.accessors) (take l.primitive-index l.primitive-items))
