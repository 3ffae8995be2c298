use Rattle.gltf_items.proofs.PlainLemmas as plain
use Rattle.gltf_items.proofs.laws.plain_by_position.Goals as goal

pub returns : goal.returns
returns g c bytes stride i apart =
    plain.plain_by_position g.T.Item.size g.T.Item.value bytes stride i g.met.T.Item.positive apart
