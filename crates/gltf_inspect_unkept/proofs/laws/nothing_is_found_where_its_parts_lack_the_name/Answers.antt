use Rattle.gltf_inspect_unkept.proofs.Quiet.{nothing_in_its_parts}
use Rattle.gltf_inspect_unkept.proofs.laws.nothing_is_found_where_its_parts_lack_the_name.Goals as goal

pub returns : goal.returns
returns c = nothing_in_its_parts
