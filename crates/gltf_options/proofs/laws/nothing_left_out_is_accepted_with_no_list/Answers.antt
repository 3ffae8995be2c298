use Rattle.gltf_options.proofs.Left.{accepted_with_no_list}
use Rattle.gltf_options.proofs.laws.nothing_left_out_is_accepted_with_no_list.Goals as goal

pub returns : goal.returns
returns c =
    accepted_with_no_list c.what_shows_the_same_is_alike_in_each_member.ensures
    c.what_shows_the_same_breaks_the_same_rules.ensures
