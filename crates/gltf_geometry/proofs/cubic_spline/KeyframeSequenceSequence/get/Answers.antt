use Rattle.gltf_geometry.proofs.Keyframes.{keyframe_within, slice_get-keyframes}
use Rattle.gltf_geometry.proofs.cubic_spline.KeyframeSequenceSequence.get.Goals as goal

pub keyframe_at-requires : goal.keyframe_at-requires
keyframe_at-requires g c =
    keyframe_within c.args.self.now.outputs.now c.args.index c.requires

pub returns : goal.returns
returns g c =
    slice_get-keyframes c.args.self.now.outputs.now c.args.index c.keyframe_at.result
    c.keyframe_at.ensures.in_tangent c.keyframe_at.ensures.value
    c.keyframe_at.ensures.out_tangent
