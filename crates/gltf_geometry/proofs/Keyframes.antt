-- The keyframes of outputs, by position.
use Rattle.std.proofs.Common.{◌≡◌, ℕ, zero, suc, ◌+◌, ◌*◌, ◌/◌, ◌<◌, List, [], ◌∷◌, length, Some}
use Rattle.std.proofs.Common.{refl, sym, ap, ◌∙◌, arith}
use Rattle.std.specs.Prelude.{slice_get}
use Rattle.gltf_geometry.specs.Splines.{keyframes}
use Rattle.gltf_geometry.specs.declared.cubic_spline.Keyframe.{Keyframe}

module _ {T : Type 0} where
  pub length-keyframes : (outputs : List T) → length (keyframes outputs) ≡ length outputs / 3
  length-keyframes [] = refl
  length-keyframes (a ∷ []) = refl
  length-keyframes (a ∷ v ∷ []) = refl
  length-keyframes (a ∷ v ∷ b ∷ outputs) = omega (arith, length-keyframes outputs)

  pub keyframe_within : (outputs : List T) (i : ℕ) → i < length (keyframes outputs)
      → 3 * i + 2 < length outputs
  keyframe_within outputs i h = omega (arith, length-keyframes outputs)

  at_equal : (xs : List T) (m n : ℕ) (x : T) → m ≡ n → slice_get xs m ≡ Some x
      → slice_get xs n ≡ Some x
  at_equal xs m n x same h = sym (ap (slice_get xs) same) ∙ h

  some_equal : (x y : T) → Some x ≡ Some y → x ≡ y
  some_equal x y h = cc

  keyframe_is : (k : Keyframe T) (a v b : T) → a ≡ k.in_tangent → v ≡ k.value
      → b ≡ k.out_tangent
      → Some (record { in_tangent = a; value = v; out_tangent = b }) ≡ Some k
  keyframe_is k a v b first second third =
      ap (λ (x : T). Some (record { in_tangent = x; value = v; out_tangent = b })) first
      ∙ ap (λ (x : T). Some (record { in_tangent = k.in_tangent; value = x; out_tangent = b }))
      second
      ∙ ap (λ (x : T). Some (record {
        in_tangent = k.in_tangent;
        value = k.value;
        out_tangent = x;
      })) third

  pub slice_get-keyframes : (outputs : List T) (i : ℕ) (k : Keyframe T)
      → slice_get outputs (3 * i) ≡ Some k.in_tangent
      → slice_get outputs (3 * i + 1) ≡ Some k.value
      → slice_get outputs (3 * i + 2) ≡ Some k.out_tangent
      → slice_get (keyframes outputs) i ≡ Some k
  slice_get-keyframes [] i k first second third = cc
  slice_get-keyframes (a ∷ []) i k first second third =
      let past : slice_get (a ∷ []) (suc (3 * i)) ≡ Some k.value =
      at_equal (a ∷ []) (3 * i + 1) (suc (3 * i)) k.value (omega arith) second in
      cc
  slice_get-keyframes (a ∷ v ∷ []) i k first second third =
      let past : slice_get (a ∷ v ∷ []) (suc (suc (3 * i))) ≡ Some k.out_tangent =
      at_equal (a ∷ v ∷ []) (3 * i + 2) (suc (suc (3 * i))) k.out_tangent (omega arith) third in
      cc
  slice_get-keyframes (a ∷ v ∷ b ∷ outputs) zero k first second third =
      keyframe_is k a v b (some_equal a k.in_tangent first) (some_equal v k.value second)
      (some_equal b k.out_tangent third)
  slice_get-keyframes (a ∷ v ∷ b ∷ outputs) (suc i) k first second third =
      slice_get-keyframes outputs i k
      (at_equal (a ∷ v ∷ b ∷ outputs) (3 * suc i) (suc (suc (suc (3 * i)))) k.in_tangent
      (omega arith) first)
      (at_equal (a ∷ v ∷ b ∷ outputs) (3 * suc i + 1) (suc (suc (suc (3 * i + 1)))) k.value
      (omega arith) second)
      (at_equal (a ∷ v ∷ b ∷ outputs) (3 * suc i + 2) (suc (suc (suc (3 * i + 2))))
      k.out_tangent (omega arith) third)
