use Rattle.gltf_read.specs.MorphTargets.{targets_left, closure_of}
use Rattle.gltf_read.proofs.Targets.{nth_given}
use Rattle.gltf_read.proofs.morph_targets.ReadMorphTargets.nth.Goals as goal

pub returns-clause-gives : goal.returns-clause-gives
returns-clause-gives g c =
    nth_given (λ b o. goal.F-post g (closure_of c.args.self.now) b o)
    (targets_left c.args.self.now) _ c.args.n c.in_ok-target.target c.read.result
    c.in_ok-target.ensures c.read.ensures
