use Rattle.gltf_validation.specs.Animations.{within_animation}
use Rattle.gltf_validation.specs.Documents.{counts_of}
use Rattle.gltf_anim.proofs.animation.Channel.new.Goals as goal

pub invariant_of-result : goal.invariant_of-result
invariant_of-result g c =
    let a = c.args.animation in
    let root = g.D.Records.root a.inner.document.now in
    let counts = within_animation (counts_of root) a.inner.json.now in
    record { holds = c.element.ensures.hold counts (rw c.deref.ensures.value a.inner.holds.0) }
