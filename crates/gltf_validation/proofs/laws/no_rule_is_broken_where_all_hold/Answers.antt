use Rattle.std.proofs.Common.{[]}
use Rattle.gltf_validation.specs.Documents.{Faults, counts_of, root_rules}
use Rattle.gltf_validation.proofs.Broken.{hold-where_none, none-where_hold}
use Rattle.gltf_validation.proofs.laws.no_rule_is_broken_where_all_hold.Goals as goal

pub returns : goal.returns
unfolding Faults
returns c = λ r. (
  hold-where_none [] (root_rules (counts_of r) r),
  none-where_hold [] (root_rules (counts_of r) r),
)
