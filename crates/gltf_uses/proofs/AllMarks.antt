-- The walk that marks the elements of all lists marks those of each as the walk does that marks
-- the elements of that list alone.
use Rattle.std.proofs.Common.{◌≡◌, ◌≢◌, ◌⊎◌, ℕ, zero, suc, ◌<◌, Bool, true, false}
use Rattle.std.proofs.Common.{if◌then◌else◌, List, [], ◌∷◌, ◌++◌, map, length, get_or, set}
use Rattle.std.proofs.Common.{replicate, refl, sym, ap, ◌∙◌, inl, inr}
use Rattle.std.specs.Prelude.{◌==◌, not, slice_set}
use Rattle.std.specs.List.{range_with_len}
use Rattle.std.proofs.lemmas.Bool.{cases_eq, eq-eqb, ne_eqb}
use Rattle.std.proofs.lemmas.List.{length-replicate, get_or-replicate, get_or-set_other}
use Rattle.gltf_json_record.specs.Place.{Place}
use Rattle.gltf_validation.specs.declared.counts.Counts.{Counts}
use Rattle.gltf_uses.specs.declared.kind.Kind.{Kind}
use Rattle.gltf_uses.specs.declared.kind.Kind.TheVariants as list
use Rattle.gltf_uses.specs.Kinds.{number, count_of}
use Rattle.gltf_uses.specs.References.{Marked, marks_after}
use Rattle.gltf_uses.specs.Usage.{marks_of, no_marks, usage_after}
use Rattle.gltf_uses.specs.Uses.{Uses, Nothing, Use, At, Both, after_uses, held_at}
use Rattle.gltf_uses.proofs.Folds.{after_uses-each}
use Rattle.gltf_uses.proofs.Unmarked.{is_unused, used_are}

abbrev pub Lists : Type 0
Lists = List (List Bool)

set_same : (lists : Lists) (n i : ℕ)
    → get_or (set lists n (slice_set (get_or lists n []) i true)) n []
    ≡ slice_set (get_or lists n []) i true
set_same [] n i = refl
set_same (marks ∷ lists) zero i = refl
set_same (marks ∷ lists) (suc n) i = set_same lists n i

-- a mark set in list n, as it is seen in list m
set_in : (lists : Lists) (n m i : ℕ) → (n ≡ m) ⊎ (n ≢ m)
    → get_or (set lists n (slice_set (get_or lists n []) i true)) m []
    ≡ (if n == m then slice_set (get_or lists m []) i true else get_or lists m [])
set_in lists n m i (inl same) = rw (same, eq-eqb m m refl) (set_same lists m i)
set_in lists n m i (inr other) =
    rw (ne_eqb n m other)
    (get_or-set_other lists n m (slice_set (get_or lists n []) i true) [] (λ e. other (sym e)))

-- what the walk keeps that marks the elements of one list alone
abbrev alone : Kind → Lists → Marked
alone kind lists = record { kind = kind; marks = marks_of kind lists }

step_alone : (kind : Kind) (lists : Lists) (path : List Place) (named : Kind) (i : ℕ)
    → alone kind (usage_after lists path named i) ≡ marks_after (alone kind lists) path named i
step_alone kind lists path named i =
    let before : List Bool = marks_of kind lists in
    let marked : List Bool → Marked = λ ms. record { kind = kind; marks = ms } in
    ap marked (set_in lists (number named) (number kind) i (cases_eq (number named) (number kind)))
    ∙ elim (number named == number kind) as (λ b.
    marked (if b then slice_set before i true else before)
    ≡ (if b then marked (slice_set before i true) else marked before))
    [ true ↦ refl | false ↦ refl ]

alone_after : (kind : Kind) (lists : Lists) (path : List Place) (t : Uses)
    → alone kind (after_uses usage_after lists path t)
    ≡ after_uses marks_after (alone kind lists) path t
alone_after kind lists path Nothing = refl
alone_after kind lists path (Use named i) = step_alone kind lists path named i
alone_after kind lists path (At step t) = alone_after kind lists (path ++ step ∷ []) t
alone_after kind lists path (Both t u) =
    alone_after kind (after_uses usage_after lists path t) path u
    ∙ ap (λ (m : Marked). after_uses marks_after m path u) (alone_after kind lists path t)

-- at first no mark of a list is set
none_in : (kind : Kind) (c : Counts)
    → marks_of kind (no_marks c) ≡ replicate (count_of kind c) false
none_in list.Accessor c = refl
none_in list.Buffer c = refl
none_in list.Camera c = refl
none_in list.Image c = refl
none_in list.Light c = refl
none_in list.Material c = refl
none_in list.Mesh c = refl
none_in list.Node c = refl
none_in list.Sampler c = refl
none_in list.Scene c = refl
none_in list.Skin c = refl
none_in list.Texture c = refl
none_in list.View c = refl

-- at last those are set whose elements some member names
pub used_after : (kind : Kind) (c : Counts) (t : Uses)
    → marks_of kind (after_uses usage_after (no_marks c) [] t)
    ≡ map (λ i. not (is_unused kind (held_at [] t) i)) (range_with_len 0 (count_of kind c))
used_after kind c t =
    let n : ℕ = count_of kind c in
    let start : Marked = alone kind (no_marks c) in
    let count : length start.marks ≡ n =
    ap (λ (ms : List Bool). length ms) (none_in kind c) ∙ length-replicate n false in
    let none : (k : ℕ) → k < n → get_or start.marks k false ≡ false = λ k within.
    ap (λ (ms : List Bool). get_or ms k false) (none_in kind c)
    ∙ get_or-replicate n k false false within in
    ap (λ (m : Marked). m.marks)
    (alone_after kind (no_marks c) [] t ∙ after_uses-each marks_after start [] t)
    ∙ used_are start (held_at [] t) n count none
