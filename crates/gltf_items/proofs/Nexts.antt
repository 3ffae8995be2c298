-- Many calls of `next`, one after the other.
use Rattle.std.proofs.Common.{◌≡◌, ℕ, zero, suc, ◌+◌, ◌<◌, List, [], ◌∷◌, length, drop, refl, inl}
use Rattle.std.proofs.Common.{inr, ap, ◌∙◌, arith}
use Rattle.std.specs.Prelude.{slice_get, IsSome, ◌↔◌}
use Rattle.std.proofs.lemmas.List.{drop-drop}
use Rattle.std.proofs.lemmas.Option.{slice_get_cases}
use Rattle.gltf_items.specs.Laws.{by_next, NthIsNext}

last_by_next : {X : Type 0} (items : List X) (n : ℕ) → (by_next items n).0 ≡ slice_get items n
last_by_next items zero = refl
last_by_next [] (suc n) = last_by_next [] n
last_by_next (x ∷ items) (suc n) = last_by_next items n

left_by_next : {X : Type 0} (items : List X) (n : ℕ) → (by_next items n).1 ≡ drop (n + 1) items
left_by_next items zero = refl
left_by_next items (suc n) = left_by_next (drop 1 items) n ∙ drop-drop (n + 1) 1 items
    ∙ ap (λ (k : ℕ). drop k items) (omega arith)

is_there : {X : Type 0} (items : List X) (n : ℕ) → IsSome (slice_get items n) ↔ (n < length items)
is_there items n =
    elim (slice_get_cases items n).1 [
      | inl there ↦ rw there.2 (λ _. there.1, λ _. refl)
      | inr past ↦ rw past.1 (λ none. (cc), λ h. absurd (omega arith))
    ]

pub nth_next : {X : Type 0} (items : List X) (n : ℕ) → NthIsNext items n
nth_next items n = record {
  answers = last_by_next items n;
  leaves = left_by_next items n;
  ends = rw (last_by_next items n) (is_there items n);
}
