use Rattle.std.proofs.Common.{◌≡◌, Bool, true, ℕ, List, [], map, get_or, set, ap, sym, ◌∙◌, Vec}
use Rattle.std.proofs.Common.{Global, ◌<◌, length, arith}
use Rattle.std.specs.Prelude.{slice_set}
use Rattle.std.proofs.lemmas.List.{map-set, get_or-map}
use Rattle.gltf_uses.specs.Usage.{usage_after}
use Rattle.gltf_uses.proofs.usage.UsageSink.add.Goals as goal

pub returns : goal.returns
returns c =
    let items : Vec Bool Global → List Bool = λ marks. marks.items in
    let vecs : List (Vec Bool Global) = c.self.inside.lists.items in
    let lists : List (List Bool) = map items vecs in
    let n : ℕ = c.number.result in
    let inside : n < length vecs = omega (arith, c.self.invariant, c.number.ensures.within) in
    let before : c.index_mut.result.now.items ≡ get_or lists n [] =
    ap items c.index_mut.ensures.value
    ∙ sym (get_or-map items vecs n c.index_mut.result.now [] inside) in
    map-set items vecs n c.mark.new.marks
    ∙ ap (set lists n) (c.mark.ensures
    ∙ ap (λ (ms : List Bool). slice_set ms c.args.index true) before)
    ∙ ap (λ (m : ℕ). set lists m (slice_set (get_or lists m []) c.args.index true))
    c.number.ensures.is
    ∙ ap (λ (all : List (List Bool)). usage_after all [] c.args.kind c.args.index) c.self.view_is
