-- A walk in terms of the items that are left is the walk in terms of a position.
use Rattle.std.proofs.Common.{◌≡◌, ℕ, zero, suc, ◌+◌, ◌-◌, List, [], ◌∷◌, length, drop, refl, sym}
use Rattle.std.proofs.Common.{ap, ◌∙◌, arith, inl, inr, length-drop}
use Rattle.std.specs.Prelude.{min, slice_get, None, nat_lt, if◌then◌else◌}
use Rattle.std.proofs.lemmas.List.{drop-drop, drop_min}
use Rattle.std.proofs.lemmas.Option.{slice_get_past}
use Rattle.std.proofs.lemmas.Bool.{cases_lt, lt-ltb, le-ltb}
use Rattle.gltf_data.specs.declared.walk.Step.{Step}
use Rattle.gltf_data.specs.declared.walk.Step.TheVariants.{Next, Nth, Len}
use Rattle.gltf_data.specs.declared.walk.End.{End}
use Rattle.gltf_data.specs.declared.walk.End.TheVariants.{Last, Count, Stop}
use Rattle.gltf_data.specs.declared.walk.Answer.TheVariants.{Item, Length}
use Rattle.gltf_data.specs.declared.walk.Ended.TheVariants as outcomes
use Rattle.gltf_data.specs.Walk.{answer, behind, all_answers, position_after, end_answer}
use Rattle.gltf_data.specs.Steps.{answer_of, after_step, end_of}
use Rattle.gltf_data.proofs.Lefts.{answers_of, after_steps}

module _ {X : Type 0} where
  slice_get-drop : (items : List X) (p k : ℕ) → slice_get (drop p items) k ≡ slice_get items (p + k)
  slice_get-drop items zero k = ap (slice_get items) (omega arith)
  slice_get-drop [] (suc p) k = refl
  slice_get-drop (x ∷ items) (suc p) k =
      let next : suc (p + k) ≡ suc p + k = omega arith in
      slice_get-drop items p k ∙ ap (slice_get (x ∷ items)) next

  answer-left : (items : List X) (p : ℕ) (step : Step)
      → answer_of (drop p items) step ≡ answer items p step
  answer-left items p Next = ap Item (slice_get-drop items p 0 ∙ ap (slice_get items) (omega arith))
  answer-left items p (Nth n) = ap Item (slice_get-drop items p n)
  answer-left items p Len = ap Length (length-drop p items)

  drop-left : (items : List X) (p n m : ℕ) → p + n ≡ m
      → drop n (drop p items) ≡ drop (min m (length items)) items
  drop-left items p n m is =
      drop-drop n p items ∙ ap (λ (k : ℕ). drop k items) is ∙ sym (drop_min m items)

  after-left : (items : List X) (p : ℕ) (step : Step)
      → after_step (drop p items) step ≡ drop (behind items p step) items
  after-left items p Next = drop-left items p 1 (p + 1) refl
  after-left items p (Nth n) = drop-left items p (n + 1) (p + n + 1) (omega arith)
  after-left items p Len = refl

  pub answers-left : (items : List X) (p : ℕ) (steps : List Step)
      → answers_of (drop p items) steps ≡ all_answers items p steps
  answers-left items p [] = refl
  answers-left items p (step ∷ steps) =
      ap (λ a. a ∷ answers_of (after_step (drop p items) step) steps) (answer-left items p step)
      ∙ ap (λ left. answer items p step ∷ answers_of left steps) (after-left items p step)
      ∙ ap (λ others. answer items p step ∷ others) (answers-left items (behind items p step) steps)

  pub after_steps-left : (items : List X) (p : ℕ) (steps : List Step)
      → after_steps (drop p items) steps ≡ drop (position_after items p steps) items
  after_steps-left items p [] = refl
  after_steps-left items p (step ∷ steps) =
      ap (λ left. after_steps left steps) (after-left items p step)
      ∙ after_steps-left items (behind items p step) steps

  last-left : (items : List X) (p : ℕ)
      → slice_get (drop p items) (length (drop p items) - 1)
      ≡ (if nat_lt p (length items) then slice_get items (length items - 1) else None)
  last-left items p =
      elim (cases_lt p (length items)) [
        | inl some ↦
            let last : p + (length (drop p items) - 1) ≡ length items - 1 =
            omega (arith, length-drop p items) in
            rw (lt-ltb p (length items) some)
            (slice_get-drop items p (length (drop p items) - 1) ∙ ap (slice_get items) last)
        | inr none ↦ rw (le-ltb p (length items) none)
            (slice_get_past (drop p items) (length (drop p items) - 1)
            (omega (arith, length-drop p items)))
      ]

  pub end-left : (items : List X) (p : ℕ) (end : End)
      → end_of (drop p items) end ≡ end_answer items p end
  end-left items p Last = ap outcomes.Last (last-left items p)
  end-left items p Count = ap outcomes.Count (length-drop p items)
  end-left items p Stop = refl
