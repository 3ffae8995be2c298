use Rattle.std.proofs.Common.{◌≡◌, ℕ, ◌<◌, Bool, false, List, [], ◌++◌, ◌∙◌, ap, sym, length}
use Rattle.std.proofs.Common.{drop, get_or}
use Rattle.std.proofs.Math.ListN.{replicate}
use Rattle.std.proofs.lemmas.List.{append-nil, get_or-replicate, drop_all}
use Rattle.gltf_validation.specs.Documents.{counts_of}
use Rattle.gltf_uses.specs.Documents.{root_uses}
use Rattle.gltf_uses.specs.Kinds.{count_of}
use Rattle.gltf_uses.specs.References.{Marked, held, marks_after}
use Rattle.gltf_uses.specs.References.{references_of, unused_of}
use Rattle.gltf_uses.specs.Usage.{unset, unset_from}
use Rattle.gltf_uses.proofs.Folds.{after_each, after_uses-each}
use Rattle.gltf_uses.proofs.Unmarked.{unused_are}
use Rattle.gltf_uses.proofs.uses.unused.Goals as goal

pub returns : goal.returns
unfolding unused_of references_of
returns c =
    let marks : List Bool = c.in_ok-marks.marks.items in
    let start : Marked = record { kind = c.args.kind; marks = marks } in
    let all : List Bool = c.deref-is_used-items.result.now in
    let n : ℕ = count_of c.args.kind (counts_of c.args.root.now) in
    let room : ℕ = c.count.result in
    let same : room ≡ n = c.count.ensures ∙ ap (count_of c.args.kind) c.of.ensures in
    let count : length marks ≡ n =
    sym c.in_ok-marks.marks.ok.0 ∙ c.in_ok-marks.ensures.len ∙ same in
    let cloned : marks ≡ replicate room false =
    c.in_ok-marks.ensures.items_if_clones_equal (λ y e. e) in
    let none : (k : ℕ) → k < n → get_or marks k false ≡ false =
    λ k within. let inside : k < room = rw same within in
    ap (λ (ms : List Bool). get_or ms k false) cloned
    ∙ get_or-replicate room k false false inside in
    let walked : all ≡ (after_each marks_after start (held c.args.root.now)).marks =
    c.deref-is_used-items.ensures.value
    ∙ ap (λ (m : Marked). m.marks)
    (c.marked.view_is ∙ c.in_ok-visit.ensures
    ∙ after_uses-each marks_after start [] (root_uses c.args.root.now)) in
    let over : drop c.loop-i.i all ≡ [] = drop_all c.loop-i.i all c.loop-i-test.false in
    sym (append-nil c.loop-i.unused.items)
    ∙ ap (λ (ms : List Bool). c.loop-i.unused.items ++ unset_from c.loop-i.i ms) (sym over)
    ∙ c.loop-i.invariant
    ∙ ap unset walked
    ∙ unused_are start (held c.args.root.now) n count none
