use Rattle.std.proofs.Common.{Some, None, if◌then◌else◌, sym, ap, ◌∙◌}
use Rattle.gltf_options.proofs.Steps.{index_of}
use Rattle.gltf_options.proofs.broken.required_index.Goals as goal

pub returns-in-Member-Item : goal.returns-in-Member-Item
returns-in-Member-Item c =
    let at = index_of c.args.path.now c.steps.result.now c.member-item.result c.name-item.result
    c.in-Member-Item.list c.in-Member-Item.index c.steps.ensures c.in-len2.len_at_least
    c.in-len2.len_below c.member-item.is c.name-item.is c.in-Member-Item.is-0
    c.in-Member-Item.is-1 in
    sym (at ∙ ap (λ b. if b then Some c.in-Member-Item.index else None)
    (sym c.eq.ensures ∙ c.if-eq.true))

pub returns-in_default-2 : goal.returns-in_default-2
returns-in_default-2 c =
    let at = index_of c.args.path.now c.steps.result.now c.member-item.result c.name-item.result
    c.in-Member-Item.list c.in-Member-Item.index c.steps.ensures c.in-len2.len_at_least
    c.in-len2.len_below c.member-item.is c.name-item.is c.in-Member-Item.is-0
    c.in-Member-Item.is-1 in
    sym (at ∙ ap (λ b. if b then Some c.in-Member-Item.index else None)
    (sym c.eq.ensures ∙ c.if-eq.false))
