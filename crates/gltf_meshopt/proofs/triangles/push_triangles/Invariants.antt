use Rattle.std.proofs.Common.{◌≡◌, drop}
use Rattle.gltf_meshopt.specs.Reading.{after}
use Rattle.gltf_meshopt.specs.Indices.{all_stored}
use Rattle.gltf_meshopt.specs.Triangles.{triangles_at, start}
use Rattle.gltf_meshopt.proofs.triangles.push_triangles.Given as goal

abbrev pub invariant-loop-code : goal.invariant-loop-code
invariant-loop-code l = after l.out.items (all_stored l.stride (triangles_at l.table (drop
    l.code-index l.codes) l.state l.rest)) ≡ after l.fn.out.items (all_stored l.stride
    (triangles_at l.table l.codes start l.bytes))
