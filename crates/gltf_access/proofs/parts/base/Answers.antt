use Rattle.std.proofs.Common.{rules, refl, sym, ◌∙◌, arith}
use Rattle.std.specs.Prelude.{Some, None}
use Rattle.gltf_items.specs.ItemIter.{items_left}
use Rattle.gltf_access.proofs.Taken.{base_part_is, base_viewed, base_nothing, base_zeros, no_base_part}
use Rattle.gltf_access.proofs.parts.base.Goals as goal

pub returns-in_err-items : goal.returns-in_err-items
returns-in_err-items g c =
    let r = c.args.accessor.inner.document.now in
    let a = c.args.accessor.inner.json.now in
    let at = base_part_is c.args.apart g.T.Item.size r a
    c.in-Some.view c.offset.result c.count-count.result (search rules) (search rules)
    (search rules) in
    base_viewed c.args.apart g.T.Item r a _ at.0 c.in-Some.view.inner.document.now at.1 None _
    (search rules) c.in_err-items.ensures

pub returns : goal.returns
returns g c =
    let r = c.args.accessor.inner.document.now in
    let a = c.args.accessor.inner.json.now in
    let at = base_part_is c.args.apart g.T.Item.size r a
    c.in-Some.view c.offset.result c.count-count.result (search rules) (search rules)
    (search rules) in
    base_viewed c.args.apart g.T.Item r a _ at.0 c.in-Some.view.inner.document.now at.1
    (Some (items_left c.in_ok-items.items)) _ refl c.in_ok-items.ensures

pub returns-then-count-eq0 : goal.returns-then-count-eq0
returns-then-count-eq0 g c =
    let r = c.args.accessor.inner.document.now in
    let a = c.args.accessor.inner.json.now in
    base_nothing c.args.apart g.T.Item r a (no_base_part c.args.apart g.T.Item.size r a (search rules))
    (sym c.count-count.ensures ∙ c.if-count-eq0.true)

pub returns-in_default : goal.returns-in_default
returns-in_default g c =
    let r = c.args.accessor.inner.document.now in
    let a = c.args.accessor.inner.json.now in
    base_zeros c.args.apart g.T.Item r a (no_base_part c.args.apart g.T.Item.size r a (search rules))
    (omega (arith, c.count-count.ensures))
