-- What is made of each item of a sparse accessor is made of its base, its values and its zero.
use Rattle.std.proofs.Common.{◌≡◌, ℕ, zero, suc, List, [], ◌∷◌, take, map, refl, sym, ap, ◌∙◌}
use Rattle.std.proofs.Common.{Bool, true, false, cond}
use Rattle.std.specs.Prelude.{Option, Some, None, unwrap_or, slice_index_or, ◌==◌}
use Rattle.std.specs.Option.{option_map}
use Rattle.std.specs.List.{range_with_len}
use Rattle.std.proofs.Math.Path.{fun_ext}
use Rattle.std.proofs.lemmas.List.{length-map}
use Rattle.std.proofs.lemmas.Simd.{map-map}
use Rattle.gltf_items.specs.Sparse.{rising, front, over, under, total, sparse_item, sparse}

module _ {X Y : Type 0} (f : X → Y) where
  either : (b : Bool) (p q : Option X) (q' : Option Y) → q' ≡ option_map f q
      → cond b (option_map f p) q' ≡ option_map f (cond b p q)
  either true p q q' is = refl
  either false p q q' is = is

  over_map : (xs : List ℕ) (vs : List X) (i : ℕ) → over xs (map f vs) i ≡ option_map f (over xs vs i)
  over_map [] vs i = refl
  over_map (x ∷ xs) [] i = refl
  over_map (x ∷ xs) (v ∷ vs) i =
      either (x == i) (Some v) (over xs vs i) (over xs (map f vs) i) (over_map xs vs i)

  at_map : (xs : List X) (i : ℕ) (nil : X) → slice_index_or (map f xs) i (f nil)
      ≡ f (slice_index_or xs i nil)
  at_map [] i nil = refl
  at_map (x ∷ xs) zero nil = refl
  at_map (x ∷ xs) (suc i) nil = at_map xs i nil

  under_map : (nil : X) (base : Option (List X)) (i : ℕ)
      → under (f nil) (option_map (map f) base) i ≡ f (under nil base i)
  under_map nil None i = refl
  under_map nil (Some xs) i = at_map xs i nil

  or_map : (o : Option X) (d : X) → unwrap_or (option_map f o) (f d) ≡ f (unwrap_or o d)
  or_map None d = refl
  or_map (Some x) d = refl

  front_map : (indices : List ℕ) (vs : List X) → front indices (map f vs) ≡ front indices vs
  unfolding front
  front_map indices vs = ap (λ (n : ℕ). rising 0 (take n indices)) (length-map vs f)

  total_map : (base : Option (List X)) (n : ℕ) → total (option_map (map f) base) n ≡ total base n
  total_map None n = refl
  total_map (Some xs) n = length-map xs f

  item_map : (nil : X) (base : Option (List X)) (indices : List ℕ) (vs : List X) (i : ℕ)
      → sparse_item (f nil) (option_map (map f) base) indices (map f vs) i
      ≡ f (sparse_item nil base indices vs i)
  unfolding sparse_item
  item_map nil base indices vs i =
      ap (λ (xs : List ℕ). unwrap_or (over xs (map f vs) i)
      (under (f nil) (option_map (map f) base) i)) (front_map indices vs)
      ∙ ap (λ o. unwrap_or o (under (f nil) (option_map (map f) base) i))
      (over_map (front indices vs) vs i)
      ∙ ap (λ d. unwrap_or (option_map f (over (front indices vs) vs i)) d) (under_map nil base i)
      ∙ or_map (over (front indices vs) vs i) (under nil base i)

  pub sparse_map : (nil : X) (base : Option (List X)) (n : ℕ) (indices : List ℕ) (vs : List X)
      → sparse (f nil) (option_map (map f) base) n indices (map f vs)
      ≡ map f (sparse nil base n indices vs)
  unfolding sparse
  sparse_map nil base n indices vs =
      ap (λ g. map g (range_with_len 0 (total (option_map (map f) base) n)))
      (fun_ext (item_map nil base indices vs))
      ∙ ap (λ (k : ℕ). map (λ i. f (sparse_item nil base indices vs i)) (range_with_len 0 k))
      (total_map base n)
      ∙ sym (map-map f (sparse_item nil base indices vs) (range_with_len 0 (total base n)))
