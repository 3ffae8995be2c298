-- Groups and columns one after the other, as loops read them.
use Rattle.std.proofs.Common.{◌≡◌, ℕ, suc, ◌-◌, ◌+◌, ◌≤◌, ◌<◌, List, ◌++◌, length, Result, Ok, Err}
use Rattle.std.proofs.Common.{Some, None, refl, sym, ap, ◌∙◌, subst, arith}
use Rattle.std.proofs.lemmas.List.{append-nil}
use Rattle.gltf_meshopt.specs.declared.fault.Stop.{Stop}
use Rattle.gltf_meshopt.specs.Reading.{◌>>=◌, after, Stops}
use Rattle.gltf_meshopt.specs.Attributes.{width_of, group_at, groups_at, column_at, columns_at}
use Rattle.gltf_meshopt.proofs.Pieces.{one_more, chained, stopped}

module _ (groups i : ℕ) (header front bytes : List ℕ) (total : Result (List ℕ × List ℕ) ℕ) (so_far
    : after front (groups_at (groups - i) i header bytes) ≡ total) where
  pub group_more : (piece following : List ℕ) → i < groups → Some (piece, following) ≡ group_at
      (width_of header i) bytes → after (front ++ piece) (groups_at (groups - (i + 1)) (i + 1)
      header following) ≡ total
  unfolding groups_at
  group_more piece following lt h =
      let k : groups - i ≡ suc (groups - (i + 1)) = omega arith in
      sym (rw (k, ← h) (one_more front piece (groups_at (groups - (i + 1)) (i + 1) header
      following))) ∙ so_far

  pub group_stops : i < groups → None ≡ group_at (width_of header i) bytes → total ≡ Err (length
      bytes)
  unfolding groups_at
  group_stops lt h =
      let k : groups - i ≡ suc (groups - (i + 1)) = omega arith in
      sym so_far ∙ rw (k, ← h) refl

  pub groups_end : groups ≤ i → total ≡ Ok (front, bytes)
  unfolding groups_at
  groups_end le =
      let k : groups - i ≡ 0 = omega arith in
      sym so_far ∙ rw k (ap (λ (xs : List ℕ). Ok (xs, bytes)) (append-nil front))

module _ (columns i groups : ℕ) (front bytes : List ℕ) (total : Result (List ℕ × List ℕ) ℕ) (so_far
    : after front (columns_at (columns - i) groups bytes) ≡ total) where
  pub column_more : (now following : List ℕ) → i < columns → after front (column_at groups bytes) ≡
      Ok (now, following) → after now (columns_at (columns - (i + 1)) groups following) ≡ total
  unfolding columns_at
  column_more now following lt h =
      let k : columns - i ≡ suc (columns - (i + 1)) = omega arith in
      sym (rw k (chained front now following (column_at groups bytes) (columns_at (columns - (i +
      1)) groups) h)) ∙ so_far

  pub column_stops : (e : Stop) → i < columns → Stops e (after front (column_at groups bytes)) →
      Stops e total
  unfolding columns_at
  column_stops e lt h =
      let k : columns - i ≡ suc (columns - (i + 1)) = omega arith in
      subst (Stops e) so_far (rw k (stopped e front front (column_at groups bytes) (λ column.
      columns_at (columns - (i + 1)) groups column.1 >>= λ others. Ok (
        column.0 ++ others.0,
        others.1,
      )) h))

  pub columns_end : columns ≤ i → total ≡ Ok (front, bytes)
  unfolding columns_at
  columns_end le =
      let k : columns - i ≡ 0 = omega arith in
      sym so_far ∙ rw k (ap (λ (xs : List ℕ). Ok (xs, bytes)) (append-nil front))
