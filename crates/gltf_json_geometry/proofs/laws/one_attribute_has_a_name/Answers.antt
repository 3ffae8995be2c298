use Rattle.std.proofs.Common.{sym, ◌∙◌}
use Rattle.gltf_json_geometry.specs.NameLaws.{same_key}
use Rattle.gltf_json_geometry.proofs.laws.one_attribute_has_a_name.Goals as goal

pub returns : goal.returns
returns c = λ s t name left right. same_key s t left.0 right.0 (left.1 ∙ sym right.1)
