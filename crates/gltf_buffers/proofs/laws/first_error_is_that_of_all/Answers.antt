use Rattle.gltf_buffers.proofs.EachLaws.{first_error_is_that_of_all}
use Rattle.gltf_buffers.proofs.laws.first_error_is_that_of_all.Goals as goal

pub returns : goal.returns
returns c = first_error_is_that_of_all
