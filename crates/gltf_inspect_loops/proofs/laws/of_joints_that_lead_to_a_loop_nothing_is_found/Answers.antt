use Rattle.std.proofs.Common.{[], ◌∷◌}
use Rattle.std.specs.Prelude.{codes}
use Rattle.gltf_json_record.specs.Place.{named, numbered}
use Rattle.gltf_findings.specs.declared.code.Code.TheVariants.{SkinNoCommonRoot}
use Rattle.gltf_inspect_nodes.specs.Roots.{roots_checks}
use Rattle.gltf_inspect_loops.proofs.Below.{none_found}
use Rattle.gltf_inspect_loops.proofs.laws.of_joints_that_lead_to_a_loop_nothing_is_found.Goals as goal

pub returns : goal.returns
returns c = λ r i joint above n m skin at there within below round found.
    none_found r i joint above n m skin at there within below round
    ((c.a_finding_is_a_condition_that_fails.ensures (roots_checks r)
    (named (codes "skins") ∷ numbered i ∷ named (codes "joints") ∷ []) SkinNoCommonRoot).0 found)
