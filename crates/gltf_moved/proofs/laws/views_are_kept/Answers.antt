use Rattle.gltf_moved.proofs.Kept.{keeps_views}
use Rattle.gltf_moved.proofs.laws.views_are_kept.Goals as goal

pub returns : goal.returns
returns c = keeps_views c.no_rule_is_broken_where_all_hold.ensures
