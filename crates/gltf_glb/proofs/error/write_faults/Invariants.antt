use Rattle.std.proofs.Common.{take}
use Rattle.std.specs.Fmt.{HasWritten, IsPlainFormatter}
use Rattle.gltf_glb.specs.Texts.{faults_text}
use Rattle.gltf_glb.proofs.error.write_faults.Given as goal

-- the faults so far are written
abbrev pub invariant-loop-path : goal.invariant-loop-path
invariant-loop-path g l =
    IsPlainFormatter l.initial.f
    → HasWritten g.W.Write.write_str_gives l.initial.f
    (faults_text (take l.path-index l.faults)) l.f
