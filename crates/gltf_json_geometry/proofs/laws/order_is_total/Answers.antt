use Rattle.gltf_json_geometry.specs.NameLaws.{order_total}
use Rattle.gltf_json_geometry.proofs.laws.order_is_total.Goals as goal

pub returns : goal.returns
returns c = order_total
