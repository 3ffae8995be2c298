-- Blocks one after the other, as a loop reads them.
use Rattle.std.proofs.Common.{◌≡◌, ℕ, suc, min, ◌-◌, ◌+◌, ◌*◌, ◌≤◌, ◌<◌, List, ◌++◌, length, Result}
use Rattle.std.proofs.Common.{Ok, sym, ap, ◌∙◌, subst, arith}
use Rattle.std.proofs.lemmas.List.{append-nil}
use Rattle.gltf_meshopt.specs.declared.fault.Stop.{Stop}
use Rattle.gltf_meshopt.specs.Reading.{◌>>=◌, after, Stops}
use Rattle.gltf_meshopt.specs.Attributes.{columns_at, elements, last_element, groups_for, blocks_at}
use Rattle.gltf_meshopt.proofs.Pieces.{one_more, stopped}

module _ (most blocks i left : ℕ) (before front bytes : List ℕ) (total : Result (List ℕ × List ℕ)
    ℕ) (so_far : after front (blocks_at most (blocks - i) left before bytes) ≡ total) where
  pub block_more : (size : ℕ) (deltas following : List ℕ) → i < blocks → min most left ≡ size →
      columns_at (length before) (groups_for size) bytes ≡ Ok (deltas, following)
      → after (front ++ elements (16 * groups_for size) deltas size 0 before) (blocks_at most
      (blocks - (i + 1)) (left - size) (last_element (16 * groups_for size) deltas size 0
      before) following) ≡ total
  unfolding blocks_at
  block_more size deltas following lt n h =
      let k : blocks - i ≡ suc (blocks - (i + 1)) = omega arith in
      sym (rw (k, n, h) (one_more front (elements (16 * groups_for size) deltas size 0 before)
      (blocks_at most (blocks - (i + 1)) (left - size) (last_element (16 * groups_for size)
      deltas size 0 before) following))) ∙ so_far

  pub block_stops : (e : Stop) (size : ℕ) (ahead : List ℕ) → i < blocks → min most left ≡ size →
      Stops e (after ahead (columns_at (length before) (groups_for size) bytes)) → Stops e total
  unfolding blocks_at
  block_stops e size ahead lt n h =
      let k : blocks - i ≡ suc (blocks - (i + 1)) = omega arith in
      subst (Stops e) so_far (rw (k, n) (stopped e ahead front (columns_at (length before)
      (groups_for size) bytes)
      (λ deltas. blocks_at most (blocks - (i + 1)) (left - size) (last_element (16 * groups_for
      size) deltas.0 size 0 before) deltas.1 >>= λ others. Ok (
        elements (16 * groups_for size)
            deltas.0 size 0 before ++ others.0,
        others.1,
      )) h))

  pub blocks_end : blocks ≤ i → total ≡ Ok (front, bytes)
  unfolding blocks_at
  blocks_end le =
      let k : blocks - i ≡ 0 = omega arith in
      sym so_far ∙ rw k (ap (λ (xs : List ℕ). Ok (xs, bytes)) (append-nil front))
