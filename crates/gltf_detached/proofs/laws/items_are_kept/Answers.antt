use Rattle.gltf_detached.proofs.Alike.{keeps_items}
use Rattle.gltf_detached.proofs.laws.items_are_kept.Goals as goal

pub returns : goal.returns
returns g c =
    keeps_items g.T.Item c.what_shows_the_same_is_alike_in_each_member.ensures
    c.alike_documents_are_read_alike.ensures
