use Rattle.gltf_options.proofs.Shown.{same_besides, same_required}
use Rattle.gltf_options.proofs.laws.what_shows_the_same_is_left_alike.Goals as goal

pub returns : goal.returns
returns c = λ also r s a b same x y.
    let alike = c.what_shows_the_same_is_alike_in_each_member.ensures in
    (same_besides also r s a b alike same x y, same_required r s alike same)
