use Rattle.std.proofs.Common.{sym}
use Rattle.gltf_geometry.proofs.Keyframes.{length-keyframes}
use Rattle.gltf_geometry.proofs.cubic_spline.KeyframeSequenceSequence.len.Goals as goal

pub returns : goal.returns
returns g c = sym (length-keyframes c.args.self.now.outputs.now)
