use Rattle.std.proofs.Common.{◌≡◌, ap, ◌∙◌, subst, codes}
use Rattle.std.specs.Prelude.{IfOk}
use Rattle.serde_json.specs.Data.{Data, array, Items}
use Rattle.serde_json.specs.View.{view, items_view}
use Rattle.serde_json.proofs.Views.{view-Array}
use Rattle.gltf_edit.specs.Bundled.{with_member}
use Rattle.gltf_edit.specs.Embedded.{with_items, items_at}
use Rattle.gltf_fallback.proofs.One.{items_append}
use Rattle.gltf_fallback.specs.Bare.{bare_of}
use Rattle.gltf_fallback.proofs.lowering.with_bare.Goals as goal

pub returns : goal.returns
returns c =
    let from = view c.args.from.now in
    let own = view c.args.document in
    let one = c.in_ok-all.all.items in
    let two = c.in_ok-bare.bare.items in
    let all : items_view c.append.new.self.items
    ≡ with_items (items_at (codes "buffers") own) (bare_of (items_at (codes "buffers") from)) =
    ap items_view c.in_ok-append.ensures.items ∙ items_append one two
    ∙ ap (λ (ds : Items). with_items ds (items_view two)) c.in_ok-all.ensures
    ∙ ap (λ (ds : Items). with_items (items_at (codes "buffers") own) ds) c.in_ok-bare.ensures in
    let list = view-Array c.append.new.self ∙ ap array all in
    subst (λ (e : Data).
    IfOk c.with_some.result (λ v. view v ≡ with_member (codes "buffers") e own)) list
    c.with_some.ensures
