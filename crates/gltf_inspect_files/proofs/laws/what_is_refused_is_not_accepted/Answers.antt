use Rattle.gltf_inspect_files.proofs.Accepted.{not_accepted}
use Rattle.gltf_inspect_files.proofs.laws.what_is_refused_is_not_accepted.Goals as goal

pub returns : goal.returns
returns c =
    not_accepted (record {
      alike = c.what_shows_the_same_is_alike_in_each_member.ensures;
      rules = c.what_shows_the_same_breaks_the_same_rules.ensures;
    })
