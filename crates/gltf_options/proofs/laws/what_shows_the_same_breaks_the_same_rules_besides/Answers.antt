use Rattle.gltf_options.proofs.Documents.{same_besides_rules}
use Rattle.gltf_options.proofs.laws.what_shows_the_same_breaks_the_same_rules_besides.Goals as goal

pub returns : goal.returns
returns c = λ also r s same.
    same_besides_rules also r s c.what_shows_the_same_is_alike_in_each_member.ensures
    c.what_shows_the_same_breaks_the_same_rules.ensures same
