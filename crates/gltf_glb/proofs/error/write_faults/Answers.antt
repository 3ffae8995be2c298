use Rattle.std.proofs.Common.{rules}
use Rattle.std.proofs.Output.{has_written_append, has_written_of_eq}
use Rattle.gltf_glb.proofs.Texts.{faults_more}
use Rattle.gltf_glb.proofs.error.write_faults.Goals as goal

pub loop-path-preserved : goal.loop-path-preserved
loop-path-preserved g c = λ plain.
    let more =
    faults_more c.args.faults.now c.loop-path.path-index c.loop-path-item.result
    c.loop-path-test.true c.loop-path-item.is in
    has_written_of_eq _ _ _ _ _ more
    (has_written_append _ _ _ _ _ _ (c.loop-path.invariant plain) (search rules))
