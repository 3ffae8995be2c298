-- Elements one after the other, as a loop makes them.
use Rattle.std.proofs.Common.{◌≡◌, ℕ, suc, ◌-◌, ◌+◌, ◌≤◌, ◌<◌, List, ◌++◌, refl, sym, ◌∙◌}
use Rattle.std.proofs.Common.{append_assoc, arith}
use Rattle.std.proofs.lemmas.List.{append-nil}
use Rattle.gltf_meshopt.specs.Attributes.{element, elements, last_element}

module _ (size : ℕ) (deltas : List ℕ) (count i : ℕ) (before : List ℕ) where
  pub elements_more : (front total : List ℕ) → i < count → front ++ elements size deltas (count -
      i) i before ≡ total → (front ++ element size deltas i before) ++ elements size deltas (count
      - (i + 1)) (i + 1) (element size deltas i before) ≡ total
  unfolding elements
  elements_more front total lt so_far =
      let k : count - i ≡ suc (count - (i + 1)) = omega arith in
      let e : front ++ elements size deltas (count - i) i before ≡ (front ++ element size deltas i
      before) ++ elements size deltas (count - (i + 1)) (i + 1) (element size deltas i before)
      = rw k (sym (append_assoc front (element size deltas i before) (elements size deltas
      (count - (i + 1)) (i + 1) (element size deltas i before)))) in
      sym e ∙ so_far

  pub last_more : (total : List ℕ) → i < count → last_element size deltas (count - i) i before ≡
      total → last_element size deltas (count - (i + 1)) (i + 1) (element size deltas i before) ≡
      total
  unfolding last_element
  last_more total lt so_far =
      let k : count - i ≡ suc (count - (i + 1)) = omega arith in
      sym (rw k refl) ∙ so_far

  pub elements_end : (front total : List ℕ) → count ≤ i → front ++ elements size deltas (count - i)
      i before ≡ total → front ≡ total
  unfolding elements
  elements_end front total le so_far =
      let k : count - i ≡ 0 = omega arith in
      let e : front ++ elements size deltas (count - i) i before ≡ front = rw k (append-nil front)
      in
      sym e ∙ so_far

  pub last_end : (total : List ℕ) → count ≤ i → last_element size deltas (count - i) i before ≡
      total → before ≡ total
  unfolding last_element
  last_end total le so_far =
      let k : count - i ≡ 0 = omega arith in
      let e : last_element size deltas (count - i) i before ≡ before = rw k refl in
      sym e ∙ so_far
