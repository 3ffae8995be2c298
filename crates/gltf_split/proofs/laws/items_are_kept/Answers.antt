use Rattle.gltf_split.proofs.Items.{keeps_items}
use Rattle.gltf_split.proofs.laws.items_are_kept.Goals as goal

pub returns : goal.returns
returns g c =
    keeps_items g.T.Item c.same_buffers.ensures c.documents_are_read.ensures
    c.items_are_kept.ensures c.items_are_kept-2.ensures
