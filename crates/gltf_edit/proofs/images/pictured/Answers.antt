use Rattle.std.proofs.Common.{ap, sym, ◌∙◌, [], ◌≡◌, drop, arith, subst}
use Rattle.std.proofs.Common.{Option}
use Rattle.std.proofs.lemmas.Grind.{common_steps}
use Rattle.serde_json.specs.Data.{array}
use Rattle.serde_json.specs.View.{view, items_view}
use Rattle.serde_json.proofs.Views.{view-Array}
use Rattle.gltf_edit.specs.Embedded.{with_items, pictured, first, shown, seats}
use Rattle.gltf_edit.specs.declared.picture.Picture.{Picture}
use Rattle.gltf_edit.proofs.Pictures.{go_on, few, with_none}
use Rattle.gltf_edit.proofs.images.pictured.Goals as goal

pub loop-i-preserved : goal.loop-i-preserved
loop-i-preserved c =
    let ps = c.args.pictures.now in
    let vs = c.deref-image-items.result.now in
    let far = c.loop-i in
    let some = few (first (drop far.i ps)) in
    let taken : c.seats.result ≡ seats (first (drop far.i ps)) =
    c.seats.ensures ∙ ap seats c.picture_at-picture.ensures in
    let seen : view c.in_ok-shown.field-0 ≡ shown far.next (first (drop far.i ps))
    (view c.image-item.result) =
    c.in_ok-shown.ensures
    ∙ ap (λ (o : Option Picture). shown far.next o (view c.image-item.result))
    c.picture_at-picture.ensures in
    let before = far.invariant.few in
    record {
      few = omega arith;
      seen =
          rw (c.in_ok-push.ensures.items, taken)
          (go_on far.next ps far.i c.image-item.result c.in_ok-shown.field-0 vs far.all.items
          (pictured c.args.first ps (items_view vs)) (omega arith) c.image-item.is seen
          far.invariant.seen);
    }

pub returns : goal.returns
returns c =
    let ps = c.args.pictures.now in
    let vs = c.deref-image-items.result.now in
    let far = c.loop-i in
    let same : vs ≡ c.in-Array.list.items = c.deref-image-items.ensures.value in
    let none : drop far.i vs ≡ [] = grind (arith, common_steps) in
    let whole : with_items (items_view far.all.items)
    (pictured far.next (drop far.i ps) (items_view []))
    ≡ pictured c.args.first ps (items_view vs) =
    subst (λ ws. with_items (items_view far.all.items)
    (pictured far.next (drop far.i ps) (items_view ws))
    ≡ pictured c.args.first ps (items_view vs)) none far.invariant.seen in
    rw (c.in-Array.is, view-Array c.in-Array.list, ← same)
    (view-Array far.all ∙ ap array (sym (with_none (items_view far.all.items)) ∙ whole))
