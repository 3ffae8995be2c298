-- What a function gives at the numbers below n.
use Rattle.std.proofs.Common.{◌≡◌, ℕ, ◌<◌, map, length, Some, ap, ◌∙◌, arith}
use Rattle.std.specs.Prelude.{slice_get}
use Rattle.std.specs.List.{range_with_len}
use Rattle.std.proofs.lemmas.List.FromFn.{length-map-range_with_len, get_or-map-range_with_len}
use Rattle.std.proofs.lemmas.Option.{slice_get-get_or}

module _ {X : Type 0} (f : ℕ → X) where
  pub slice_get-each : (n i : ℕ) → i < n → slice_get (map f (range_with_len 0 n)) i ≡ Some (f i)
  slice_get-each n i h =
      slice_get-get_or (map f (range_with_len 0 n)) i (f i)
      (omega (arith, length-map-range_with_len f 0 n))
      ∙ ap Some (get_or-map-range_with_len f 0 n i i (f i) h (omega arith))

  -- where so many are below n
  pub below_each : (n i : ℕ) → i < length (map f (range_with_len 0 n)) → i < n
  below_each n i h = omega (arith, length-map-range_with_len f 0 n)
