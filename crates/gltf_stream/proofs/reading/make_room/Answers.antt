use Rattle.std.proofs.Common.{◌≡◌, ◌≤◌, ◌+◌, take, length, ℕ, List, ◌++◌, ap, ◌∙◌, arith}
use Rattle.std.proofs.lemmas.List.{take-append-le, take-take, length-take}
use Rattle.gltf_stream.proofs.reading.make_room.Goals as goal

-- what was there is not touched by what is put after it
in_front : (at n : ℕ) (old rest : List ℕ) → at ≤ n → at ≤ length old
    → take at (take n old ++ rest) ≡ take at old
in_front at n old rest few there =
    take-append-le at (take n old) rest (omega (arith, length-take n old))
    ∙ take-take at n old few

pub returns-in-Ok-clause-front : goal.returns-in-Ok-clause-front
returns-in-Ok-clause-front c =
    ap (take c.args.at) c.in-Ok.ensures.items
    ∙ in_front c.args.at (c.args.at + c.args.most) c.args.bytes.now.items _ (omega arith)
    c.requires.there
