use Rattle.gltf_items.proofs.PlainLemmas as plain
use Rattle.gltf_items.proofs.laws.items_of_a_cut.Goals as goal

pub returns : goal.returns
returns g c bytes stride start count apart some room =
    plain.plain-cut g.T.Item.size g.T.Item.value bytes stride start count
    (g.met.T.Item.reads_front c.requires.fits) g.met.T.Item.positive apart some room
