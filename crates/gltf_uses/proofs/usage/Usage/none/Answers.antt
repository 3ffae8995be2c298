use Rattle.std.proofs.Common.{◌≡◌, ◌<◌, ℕ, Bool, false, List, [], ◌∷◌, ◌++◌, replicate, map, take}
use Rattle.std.proofs.Common.{ap, sym, ◌∙◌, Vec, Global, length, get_or}
use Rattle.std.proofs.lemmas.List.{map-append, map_more}
use Rattle.gltf_uses.specs.declared.kind.Kind.{Kind}
use Rattle.gltf_uses.specs.declared.kind.Kind.TheVariants as list
use Rattle.gltf_uses.specs.Kinds.{all_kinds, count_of}
use Rattle.gltf_uses.proofs.usage.Usage.none.Goals as goal

pub loop-kind-preserved : goal.loop-kind-preserved
loop-kind-preserved c =
    let items : Vec Bool Global → List Bool = λ marks. marks.items in
    let made : Kind → List Bool = λ kind. replicate (count_of kind c.args.counts.now) false in
    let i : ℕ = c.loop-kind.kind-index in
    let inside : i < length all_kinds = c.loop-kind-test.true in
    let one : c.in_ok-vec.field-0.items ≡ made (get_or all_kinds i list.Accessor) =
    c.in_ok-vec.ensures.items_if_clones_equal (λ y e. e)
    ∙ ap (λ (n : ℕ). replicate n false) c.count.ensures in
    ap (map items) c.in_ok-push.ensures.items
    ∙ map-append items c.loop-kind.lists.items (c.in_ok-vec.field-0 ∷ [])
    ∙ ap (λ (lists : List (List Bool)). lists ++ c.in_ok-vec.field-0.items ∷ [])
    c.loop-kind.invariant
    ∙ ap (λ (marks : List Bool). map made (take i all_kinds) ++ marks ∷ []) one
    ∙ sym (map_more made all_kinds i list.Accessor inside)
