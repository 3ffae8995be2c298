use Rattle.gltf_trimmed.proofs.Alike.{keeps_items}
use Rattle.gltf_trimmed.proofs.laws.items_are_kept.Goals as goal

pub returns : goal.returns
returns g c =
    keeps_items g.T.Item g.met.T.Item.reads_front
    c.what_shows_the_same_is_alike_in_each_member.ensures
    c.alike_documents_are_read_alike.ensures
