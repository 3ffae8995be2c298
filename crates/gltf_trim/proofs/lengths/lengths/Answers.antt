use Rattle.std.proofs.Common.{◌≡◌, List, ℕ, Option, ◌∙◌, ap, subst, length}
use Rattle.std.specs.Prelude.{IfOk, drop, take, ◌-◌, ◌+◌, get_or, if◌then◌else◌}
use Rattle.serde_json.specs.View.{view, items_view}
use Rattle.gltf_trim.specs.Lengths.{marked_buffer, raised_by, is_in_some}
use Rattle.gltf_trim.specs.Marks.{folded}
use Rattle.gltf_trim.specs.Tails.{bytes_of, byte_at}
use Rattle.gltf_trim.proofs.Made.{are_lengths}
use Rattle.gltf_trim.proofs.lengths.lengths.Goals as goal

pub returns : goal.returns
returns c =
    let vs = c.list_at-views.result.now in
    let bs = c.list_at-buffers.result.now in
    let s = c.min-stay.result in
    let gone = items_view (take (length vs - s) (drop s vs)) in
    let left = items_view (take s vs) in
    let ms = c.mark_buffers.new.marks.items in
    let ls = c.in_ok-left.left.items in
    let es = c.raise_ends.new.ends.items in
    let held = bytes_of c.args.bytes.now in
    let passed = rw (c.deref.ensures.value, c.deref-2.ensures.value) at c.in_ok-left.ensures in
    let made = rw (c.deref-3.ensures.value, c.deref-4.ensures.value) at c.in_ok-tails.ensures in
    let cleared = λ (b i : ℕ). (rw c.deref-5.ensures.value at (c.clear_views.ensures b i))
    ∙ ap (λ (xs : List (List ℕ)).
    if is_in_some b (get_or es b 0 + i) gone then 0 else byte_at xs b i) made in
    let are = are_lengths (view c.args.document.now) c.args.stay s vs bs c.min-stay.ensures
    c.list_at-views.ensures c.list_at-buffers.ensures ms ls es held
    (bytes_of c.clear_views.new.tails.items) passed
    (c.mark_buffers.ensures
    ∙ ap (folded marked_buffer gone) (c.in_ok-marks.ensures.items_if_clones_equal (λ y same. same)))
    (c.raise_ends.ensures
    ∙ ap (folded raised_by left) (c.in_ok-ends.ensures.items_if_clones_equal (λ y same. same)))
    cleared in
    let told = rw (c.deref-6.ensures.value, c.deref-7.ensures.value, c.deref-8.ensures.value) at
    c.all_shorter.ensures in
    subst (λ (ks : List (Option ℕ)). IfOk c.all_shorter.result (λ ls. ls.items ≡ ks)) are told
