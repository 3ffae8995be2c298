use Rattle.std.proofs.Common.{◌≡◌, vec_len, take}
use Rattle.std.specs.List.{sum_by}
use Rattle.gltf_report_json.specs.Held.{in_64_bits}
use Rattle.gltf_report_json.proofs.info.draw_calls.Given as goal

-- the primitives of the meshes so far
abbrev pub invariant-loop-mesh : goal.invariant-loop-mesh
invariant-loop-mesh l =
    l.calls ≡ in_64_bits (sum_by (λ m. vec_len m.primitives) (take l.mesh-index l.mesh-items))
