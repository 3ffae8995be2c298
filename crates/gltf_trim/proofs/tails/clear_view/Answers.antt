use Rattle.std.proofs.Common.{◌≡◌, ◌-◌, codes, ◌∙◌, sym, ap, ℕ, get_or, arith, Option}
use Rattle.std.proofs.Common.{unwrap_or}
use Rattle.serde_json.specs.View.{view}
use Rattle.gltf_edit.specs.Bundled.{size_or_zero}
use Rattle.gltf_trim.specs.Lengths.{view_end}
use Rattle.gltf_trim.proofs.Cleared.{one_cleared}
use Rattle.gltf_trim.proofs.tails.clear_view.Goals as goal

pub returns-then-buffer-len : goal.returns-then-buffer-len
returns-then-buffer-len c =
    let d = view c.args.one.now in
    let e = c.number_at-end.result in
    let offset = c.unwrap_or.ensures
    ∙ ap (λ (o : Option ℕ). unwrap_or o 0) c.size_at-then-buffer-len.ensures in
    let from : c.saturating_sub-from.result
    ≡ size_or_zero (codes "byteOffset") d - get_or c.args.ends.now c.in-Some.buffer 0 =
    c.saturating_sub-from.ensures
    ∙ ap (λ (n : ℕ). n - e) offset
    ∙ ap (λ (n : ℕ). size_or_zero (codes "byteOffset") d - n) c.number_at-end.ensures in
    let to : c.saturating_sub-to.result
    ≡ view_end d - get_or c.args.ends.now c.in-Some.buffer 0 =
    c.saturating_sub-to.ensures
    ∙ ap (λ (n : ℕ). n - e) c.view_end.ensures
    ∙ ap (λ (n : ℕ). view_end d - n) c.number_at-end.ensures in
    one_cleared c.args.tails.now.items c.args.ends.now d c.in-Some.buffer
    (sym c.size_at.ensures ∙ c.in-Some.is) c.index_mut.result.now c.clear.new.bytes (omega arith)
    c.index_mut.ensures.value c.saturating_sub-from.result c.saturating_sub-to.result from to
    c.clear.ensures
