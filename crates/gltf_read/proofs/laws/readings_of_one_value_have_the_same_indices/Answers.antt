use Rattle.gltf_read.proofs.SameIndices.{same_of_one_value}
use Rattle.gltf_read.proofs.laws.readings_of_one_value_have_the_same_indices.Goals as goal

pub returns : goal.returns
returns c = same_of_one_value
