use Rattle.gltf_detached.proofs.Named.{names_buffers}
use Rattle.gltf_detached.proofs.laws.buffers_are_named.Goals as goal

pub returns : goal.returns
returns c = names_buffers
