use Rattle.gltf_read.specs.MorphTargets.{targets_left, closure_of}
use Rattle.gltf_read.proofs.Targets.{last_given}
use Rattle.gltf_read.proofs.morph_targets.ReadMorphTargets.last.Goals as goal

pub returns : goal.returns
returns g c =
    last_given (λ b o. goal.F-post g (closure_of c.args.self) b o) (targets_left c.args.self)
    c.in_ok-target.target c.read.result c.in_ok-target.ensures c.read.ensures
