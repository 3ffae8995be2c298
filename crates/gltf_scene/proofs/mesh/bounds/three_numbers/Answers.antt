use Rattle.std.proofs.Common.{rules}
use Rattle.gltf_scene.proofs.Lengths.{not_three}
use Rattle.gltf_scene.proofs.mesh.bounds.three_numbers.Goals as goal

pub returns-in_default : goal.returns-in_default
returns-in_default c =
    rw (← c.in_ok-as_array.ensures)
    (not_three c.in_ok-as_array.field-0.now.items (λ three. search rules))
