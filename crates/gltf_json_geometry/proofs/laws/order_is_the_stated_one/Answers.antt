use Rattle.gltf_json_geometry.proofs.Orders.{derived_is}
use Rattle.gltf_json_geometry.proofs.laws.order_is_the_stated_one.Goals as goal

pub returns : goal.returns
returns c = derived_is
