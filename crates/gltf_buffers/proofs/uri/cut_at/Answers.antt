use Rattle.gltf_buffers.proofs.Cuts.{split_text}
use Rattle.gltf_buffers.proofs.uri.cut_at.Goals as goal

pub returns : goal.returns
returns c =
    split_text c.args.mark.now c.args.text.now c.split_once.result c.requires
    c.split_once.ensures.cases
