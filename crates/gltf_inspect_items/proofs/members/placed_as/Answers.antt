use Rattle.std.proofs.Common.{ap, ◌∙◌, Some, map}
use Rattle.std.specs.Prelude.{option_map}
use Rattle.gltf_inspect_items.specs.Members.{placed}
use Rattle.gltf_inspect_items.proofs.members.placed_as.Goals as goal

pub returns-in-None : goal.returns-in-None
returns-in-None g c =
    ap (option_map (λ xs. placed 0 c.args.count (map g.T.Number.number xs)))
    (rw c.value-view.ensures at c.in-None.ensures)

pub returns-in-Some : goal.returns-in-Some
returns-in-Some g c =
    ap Some c.placed.ensures
    ∙ ap (option_map (λ xs. placed 0 c.args.count (map g.T.Number.number xs)))
    (rw c.value-view.ensures at c.in-Some.ensures)
