use Rattle.gltf_buffers.proofs.Firsts.{cuts_at_first}
use Rattle.gltf_buffers.proofs.uri.laws.cuts_at_first.Goals as goal

pub returns : goal.returns
returns c = cuts_at_first
