use Rattle.std.proofs.Common.{drop, ap, ◌∙◌, List}
use Rattle.std.proofs.lemmas.List.{drop-drop}
use Rattle.gltf_items.specs.ItemIter.{items_left}
use Rattle.gltf_items.proofs.item_iter.ItemIter.nth.Goals as goal

pub returns-clause-leaves : goal.returns-clause-leaves
returns-clause-leaves g c =
    c.first.ensures.leaves ∙ ap (λ (xs : List g.row.T.Denot). drop 1 xs) c.pass.ensures
    ∙ drop-drop 1 c.args.n (items_left c.args.self.now)
