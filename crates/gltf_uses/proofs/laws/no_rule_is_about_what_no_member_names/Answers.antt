use Rattle.gltf_uses.proofs.SameDocuments.{root_same}
use Rattle.gltf_uses.proofs.laws.no_rule_is_about_what_no_member_names.Goals as goal

pub returns : goal.returns
returns c = λ r counts kind i none. root_same kind i counts r none
