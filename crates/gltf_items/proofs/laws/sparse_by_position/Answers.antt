use Rattle.gltf_items.proofs.Overridden as sparse
use Rattle.gltf_items.proofs.laws.sparse_by_position.Goals as goal

pub returns-clause-items : goal.returns-clause-items
returns-clause-items g c base n indices values i =
    sparse.sparse_by_position g.T.Item.zero_item base indices values n i

pub returns-clause-overrides : goal.returns-clause-overrides
returns-clause-overrides g c base indices values =
    sparse.overrides g.T.Item.zero_item base indices values
