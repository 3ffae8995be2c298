use Rattle.std.proofs.Common.{◌≡◌, arith}
use Rattle.std.proofs.lemmas.Grind.{common_steps}
use Rattle.gltf_messages.proofs.Pointers.{escaped_step, escaped_char}
use Rattle.gltf_messages.proofs.pointer.push_escaped.Goals as goal

pub loop-c-preserved : goal.loop-c-preserved
loop-c-preserved c =
    let tilde : ¬ (c.in-Some.c ≡ 126) = λ same. grind (arith, common_steps) in
    let slash : ¬ (c.in-Some.c ≡ 47) = λ same. grind (arith, common_steps) in
    escaped_step c.in-Some.c _ _ _ _ _ _ c.in-Some.ensures.steps.0
    (escaped_char c.in-Some.c tilde slash) c.loop-c.invariant c.in_ok-push-in_default.ensures.bytes
