use Rattle.gltf_buffers.proofs.Prefixes.{strips_prefix}
use Rattle.gltf_buffers.proofs.uri.laws.strips_prefix.Goals as goal

pub returns : goal.returns
returns c = strips_prefix
