use Rattle.std.proofs.Common.{◌∙◌, rules}
use Rattle.gltf_inspect_items.proofs.Few.{same_as}
use Rattle.gltf_inspect_items.proofs.members.members_at.Goals as goal

pub returns-in-Some : goal.returns-in-Some
returns-in-Some g c =
    c.in-Some.ensures (λ none. c.some_left.ensures (search rules) (c.items_at-items.ensures ∙ none))

pub returns : goal.returns
returns g c = same_as _ _ (c.each_of.ensures ∙ c.items_at-items.ensures)
