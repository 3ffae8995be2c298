use Rattle.std.proofs.Common.{◌∙◌}
use Rattle.gltf_quantization.proofs.Members.{by_meaning}
use Rattle.gltf_quantization.proofs.reader.is_accepted.Goals as goal

pub returns : goal.returns
returns c =
    c.accepts.ensures
    ∙ by_meaning _ _ c.args.attribute _ _ _ _ _ _ c.dimensions.ensures c.data_type.ensures
    c.normalized.ensures
