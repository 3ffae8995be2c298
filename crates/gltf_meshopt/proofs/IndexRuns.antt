-- Reading indices one after the other, as a loop does.
use Rattle.std.proofs.Common.{◌≡◌, ℕ, suc, ◌-◌, ◌+◌, ◌≤◌, ◌<◌, ◌%◌, List, ◌∷◌, ◌++◌, length, Result}
use Rattle.std.proofs.Common.{Ok, Err, Some, None, cond, eqb, Bool, false, eq-eqb, subst, refl, sym}
use Rattle.std.proofs.Common.{ap, ◌∙◌, append_assoc, arith}
use Rattle.std.proofs.lemmas.List.{append-nil}
use Rattle.std.specs.List.{flat_map}
use Rattle.gltf_meshopt.specs.Numbers.{number_at}
use Rattle.gltf_meshopt.specs.Reading.{◌>>=◌, after}
use Rattle.gltf_meshopt.specs.Indices.{stored, all_stored, index_of, indices_at}

one_more : (stride index : ℕ) (front : List ℕ) (read : Result (List ℕ × List ℕ) ℕ) → after front
    (all_stored stride (read >>= λ x. Ok (index ∷ x.0, x.1))) ≡ after (front ++ stored stride
    index) (all_stored stride read)
one_more stride index front (Ok x) = ap (λ (xs : List ℕ). Ok (xs, x.1)) (sym (append_assoc front
    (stored stride index) (flat_map (stored stride) x.0)))
one_more stride index front (Err left) = refl

module _ (stride count i even odd : ℕ) (front bytes : List ℕ) (number : ℕ) (following : List ℕ)
    (total : Result (List ℕ × List ℕ) ℕ) (lt : i < count) (h : Some (number, following) ≡ number_at
    bytes)
    (so_far : after front (all_stored stride (indices_at (count - i) even odd bytes)) ≡ total) where
  goes_on : after (front ++ stored stride (index_of even odd number)) (all_stored stride
      (indices_at (count - (i + 1)) (cond (eqb (number % 2) 0) (index_of even odd number) even)
      (cond (eqb (number % 2) 0) odd (index_of even odd number)) following)) ≡ total
  unfolding indices_at
  goes_on =
      let k : count - i ≡ suc (count - (i + 1)) = omega arith in
      let e = one_more stride (index_of even odd number) front (indices_at (count - (i + 1)) (cond
      (eqb (number % 2) 0) (index_of even odd number) even) (cond (eqb (number % 2) 0) odd
      (index_of even odd number)) following) in
      sym (rw (k, ← h) e) ∙ so_far

  pub goes_on_even : number % 2 ≡ 0 → after (front ++ stored stride (index_of even odd number))
      (all_stored stride (indices_at (count - (i + 1)) (index_of even odd number) odd following)) ≡
      total
  goes_on_even e = subst (λ (b : Bool). after (front ++ stored stride (index_of even odd number))
      (all_stored stride (indices_at (count - (i + 1)) (cond b (index_of even odd number) even)
      (cond b odd (index_of even odd number)) following)) ≡ total) (eq-eqb _ _ e) goes_on

  pub goes_on_odd : eqb (number % 2) 0 ≡ false → after (front ++ stored stride (index_of even odd
      number)) (all_stored stride (indices_at (count - (i + 1)) even (index_of even odd number)
      following)) ≡ total
  goes_on_odd e = subst (λ (b : Bool). after (front ++ stored stride (index_of even odd number))
      (all_stored stride (indices_at (count - (i + 1)) (cond b (index_of even odd number) even)
      (cond b odd (index_of even odd number)) following)) ≡ total) e goes_on

pub stops : (stride count i even odd : ℕ) (front bytes : List ℕ) (total : Result (List ℕ × List ℕ)
    ℕ) → i < count → None ≡ number_at bytes
    → after front (all_stored stride (indices_at (count - i) even odd bytes)) ≡ total → total ≡ Err
    (length bytes)
unfolding indices_at
stops stride count i even odd front bytes total lt h so_far =
    let k : count - i ≡ suc (count - (i + 1)) = omega arith in
    sym so_far ∙ rw (k, ← h) refl

pub is_done : (stride count i even odd : ℕ) (front bytes : List ℕ) (total : Result (List ℕ × List
    ℕ) ℕ) → count ≤ i
    → after front (all_stored stride (indices_at (count - i) even odd bytes)) ≡ total → total ≡ Ok
    (front, bytes)
unfolding indices_at
is_done stride count i even odd front bytes total le so_far =
    let k : count - i ≡ 0 = omega arith in
    sym so_far ∙ rw k (ap (λ (xs : List ℕ). Ok (xs, bytes)) (append-nil front))
