use Rattle.gltf_ranges.proofs.Taken.{all_within}
use Rattle.gltf_ranges.proofs.laws.none_is_left_out_where_there_is_enough.Goals as goal

pub returns : goal.returns
returns c = all_within
