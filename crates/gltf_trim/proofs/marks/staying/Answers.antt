use Rattle.std.proofs.Common.{sym, ap, ◌∙◌, length, codes, List, Bool}
use Rattle.serde_json.specs.View.{view}
use Rattle.gltf_edit.specs.Embedded.{items_at}
use Rattle.gltf_trim.specs.Marks.{folded, marked_image, marked_accessor}
use Rattle.gltf_trim.proofs.Made.{count_is, all_stay, some_stay}
use Rattle.gltf_trim.proofs.marks.staying.Goals as goal

pub returns-then-not-is_plain : goal.returns-then-not-is_plain
returns-then-not-is_plain c =
    let d = view c.args.document.now in
    let vs = c.list_at-count.result.now in
    all_stay d (length vs) (count_is (codes "bufferViews") d vs c.list_at-count.ensures)
    (sym c.is_plain.ensures ∙ c.if-not-is_plain.true)

pub returns : goal.returns
returns c =
    let d = view c.args.document.now in
    let vs = c.list_at-count.result.now in
    c.before_marked.ensures.is
    ∙ some_stay d (length vs) (count_is (codes "bufferViews") d vs c.list_at-count.ensures)
    (sym c.is_plain.ensures ∙ c.if-not-is_plain.false) c.deref.result.now
    (c.deref.ensures.value ∙ c.unmark_accessors.ensures
    ∙ ap (λ ds. folded marked_accessor ds c.mark_images.new.marks.items) c.list_at-2.ensures
    ∙ ap (λ (ms : List Bool). folded marked_accessor (items_at (codes "accessors") d) ms)
    (c.mark_images.ensures
    ∙ ap (λ ds. folded marked_image ds c.in_ok-marks.marks.items) c.list_at.ensures
    ∙ ap (λ (ms : List Bool). folded marked_image (items_at (codes "images") d) ms)
    (c.in_ok-marks.ensures.items_if_clones_equal (λ y same. same))))
