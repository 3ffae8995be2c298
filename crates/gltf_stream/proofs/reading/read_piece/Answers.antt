use Rattle.std.proofs.Common.{rules, ◌≡◌, ◌≤◌, ◌+◌, take, drop, length, ℕ, List, ◌++◌, ap, subst}
use Rattle.std.proofs.Common.{◌∙◌, arith}
use Rattle.std.proofs.Math.Seq.{take-append_seam}
use Rattle.gltf_stream.proofs.Pieces.{take_on}
use Rattle.gltf_stream.proofs.reading.read_piece.Goals as goal

take_whole : (n : ℕ) (xs rest : List ℕ) → length xs ≡ n → take n (xs ++ rest) ≡ xs
take_whole n xs rest e =
    subst (λ (k : ℕ). take k (xs ++ rest) ≡ xs) e (take-append_seam xs rest)

-- the first of the bytes that came, after those that were there
came_behind : (at n room : ℕ) (old made read rest : List ℕ) → length read ≡ room
    → at + n ≤ length read → take at made ≡ old → take at read ≡ take at made
    → take (at + n) (take room (read ++ rest)) ≡ old ++ take n (drop at read)
came_behind at n room old made read rest same fits front kept =
    ap (take (at + n)) (take_whole room read rest same)
    ∙ take_on at n read (omega arith)
    ∙ ap (λ (t : List ℕ). t ++ take n (drop at read)) (kept ∙ front)

pub returns-in-Ok-clause-came : goal.returns-in-Ok-clause-came
returns-in-Ok-clause-came g c = (
  take c.in-Ok.count (drop c.args.at c.read_behind-answer.new.bytes),
  c.in-Ok.ensures.ok,
  came_behind c.args.at c.in-Ok.count c.make_room.new.bytes.len
      (take c.args.at c.args.bytes.now.items) c.as_mut_slice.result.now
      c.read_behind-answer.new.bytes _ (search rules) c.in-Ok.ensures.fits
      (ap (take c.args.at) c.as_mut_slice.ensures.value ∙ c.in_ok-make_room.ensures.front)
      c.in-Ok.ensures.front,
)
