-- Triangles one after the other, as a loop reads them.
use Rattle.std.proofs.Common.{◌≡◌, ℕ, ◌+◌, ◌≤◌, ◌<◌, List, ◌∷◌, ◌++◌, length, drop, get_or, Result}
use Rattle.std.proofs.Common.{Ok, Err, Some, None, refl, sym, ap, ◌∙◌, append_assoc}
use Rattle.std.proofs.lemmas.List.{append-nil, drop_more, drop_all}
use Rattle.std.specs.List.{flat_map}
use Rattle.gltf_meshopt.specs.declared.corners.State.{State}
use Rattle.gltf_meshopt.specs.Reading.{◌>>=◌, after}
use Rattle.gltf_meshopt.specs.Indices.{stored, all_stored}
use Rattle.gltf_meshopt.specs.Triangles.{triangle_at, triangles_at}

regroup : (f a b c r : List ℕ) → f ++ (a ++ (b ++ (c ++ r))) ≡ ((f ++ a) ++ b) ++ c ++ r
regroup f a b c r = simp append_assoc

three_more : (stride a b c : ℕ) (front : List ℕ) (read : Result (List ℕ × List ℕ) ℕ) → after front
    (all_stored stride (read >>= λ x. Ok (a ∷ b ∷ c ∷ x.0, x.1))) ≡ after (((front ++ stored stride
    a) ++ stored stride b) ++ stored stride c) (all_stored stride read)
three_more stride a b c front (Ok x) = ap (λ (xs : List ℕ). Ok (xs, x.1)) (regroup front (stored
    stride a) (stored stride b) (stored stride c) (flat_map (stored stride) x.0))
three_more stride a b c front (Err left) = refl

module _ (stride i : ℕ) (table codes : List ℕ) (s : State) (front bytes : List ℕ) (total : Result
    (List ℕ × List ℕ) ℕ) (so_far : after front (all_stored stride (triangles_at table (drop i
    codes) s bytes)) ≡ total) where
  pub triangle_more : (a b c : ℕ) (t : State) (following : List ℕ) → i < length codes → Some (
    (
      a,
      b,
      c,
    ),
    t,
    following,
  ) ≡ triangle_at table (get_or codes i 0) s bytes
      → after (((front ++ stored stride a) ++ stored stride b) ++ stored stride c) (all_stored
      stride (triangles_at table (drop (i + 1) codes) t following)) ≡ total
  unfolding triangles_at
  triangle_more a b c t following lt h = sym (rw (drop_more codes i 0 lt, ← h) (three_more stride a
      b c front (triangles_at table (drop (i + 1) codes) t following))) ∙ so_far

  pub triangle_stops : i < length codes → None ≡ triangle_at table (get_or codes i 0) s bytes →
      total ≡ Err (length bytes)
  unfolding triangles_at
  triangle_stops lt h = sym so_far ∙ rw (drop_more codes i 0 lt, ← h) refl

  pub triangles_end : length codes ≤ i → total ≡ Ok (front, bytes)
  unfolding triangles_at
  triangles_end le = sym so_far ∙ rw (drop_all i codes le) (ap (λ (xs : List ℕ). Ok (xs, bytes))
      (append-nil front))
