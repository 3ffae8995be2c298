use Rattle.gltf_buffers.proofs.EachLaws.{are_bytes_of_all}
use Rattle.gltf_buffers.proofs.laws.are_bytes_of_all.Goals as goal

pub returns : goal.returns
returns c = are_bytes_of_all
