use Rattle.std.proofs.Common.{◌≡◌, ◌+◌, drop, get_or, ap, sym, ◌∙◌, ◌∷◌, arith}
use Rattle.std.proofs.lemmas.List.{drop_more}
use Rattle.serde_json.specs.View.{view, items_view}
use Rattle.serde_json.specs.declared.value.Value.{Value}
use Rattle.std.specs.Prelude.{if◌then◌else◌}
use Rattle.gltf_trim.specs.Lengths.{is_in, is_in_some}
use Rattle.gltf_trim.specs.Tails.{bytes_of, byte_at}
use Rattle.gltf_trim.proofs.Cleared.{one_after_other}
use Rattle.gltf_trim.proofs.tails.clear_views.Goals as goal

pub loop-one-preserved : goal.loop-one-preserved
loop-one-preserved c b i =
    let far = c.loop-one in
    let vs = c.args.views.now in
    let v = c.one-item.result in
    let place = get_or c.args.ends.now b 0 + i in
    let rest = items_view (drop (far.one-index + 1) vs) in
    let left : items_view (drop far.one-index vs) ≡ items_view (v ∷ drop (far.one-index + 1) vs) =
    ap items_view (drop_more vs far.one-index v (omega arith)
    ∙ ap (λ (w : Value). w ∷ drop (far.one-index + 1) vs) (sym c.one-item.is)) in
    one_after_other (is_in b place (view v)) (is_in_some b place rest)
    (byte_at (bytes_of far.tails.items) b i) (byte_at (bytes_of c.clear_view.new.tails.items) b i)
    (c.clear_view.ensures b i)
    ∙ ap (λ ds. if is_in_some b place ds then 0 else byte_at (bytes_of far.tails.items) b i)
    (sym left)
    ∙ far.invariant b i
