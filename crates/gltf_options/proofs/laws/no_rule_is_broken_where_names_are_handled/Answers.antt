use Rattle.gltf_options.proofs.Handled.{holds_where_handled}
use Rattle.gltf_options.proofs.laws.no_rule_is_broken_where_names_are_handled.Goals as goal

pub returns : goal.returns
returns c = holds_where_handled c.no_rule_is_broken_where_all_hold.ensures
