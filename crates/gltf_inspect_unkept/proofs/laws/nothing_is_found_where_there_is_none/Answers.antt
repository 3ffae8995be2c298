use Rattle.gltf_inspect_unkept.proofs.Quiet.{nothing_where_there_is_none}
use Rattle.gltf_inspect_unkept.proofs.laws.nothing_is_found_where_there_is_none.Goals as goal

pub returns : goal.returns
returns c = nothing_where_there_is_none
