-- Reading one piece after the other, as a loop does.
use Rattle.std.proofs.Common.{◌≡◌, ℕ, List, [], ◌++◌, Result, Ok, Err, refl, sym, ap, ◌∙◌}
use Rattle.std.proofs.Common.{append_assoc}
use Rattle.gltf_meshopt.specs.declared.fault.Stop.{Stop}
use Rattle.gltf_meshopt.specs.declared.fault.Stop.TheVariants.{Memory, Cut}
use Rattle.gltf_meshopt.specs.Reading.{◌>>=◌, after, Stops}

-- a piece that is known, and those behind it
pub one_more : (front piece : List ℕ) (read : Result (List ℕ × List ℕ) ℕ) → after front (read >>= λ
    x. Ok (piece ++ x.0, x.1)) ≡ after (front ++ piece) read
one_more front piece (Ok x) = ap (λ (xs : List ℕ). Ok (xs, x.1)) (sym (append_assoc front piece
    x.0))
one_more front piece (Err left) = refl

abbrev done : List ℕ × List ℕ → Result (List ℕ × List ℕ) ℕ
done x = Ok x

ok_is : (x y : List ℕ × List ℕ) → done x ≡ done y → x ≡ y
ok_is x y e = cc

-- a piece that was read and appended, and those behind it
pub chained : (front now following : List ℕ) (first : Result (List ℕ × List ℕ) ℕ) (next : List ℕ →
    Result (List ℕ × List ℕ) ℕ) → after front first ≡ Ok (now, following)
    → after front (first >>= λ x. next x.1 >>= λ y. Ok (x.0 ++ y.0, y.1)) ≡ after now (next
    following)
chained front now following (Ok x) next e =
    let p = ok_is (front ++ x.0, x.1) (now, following) e in
    one_more front x.0 (next x.1) ∙ ap (λ (q : List ℕ × List ℕ). after q.0 (next q.1)) p
chained front now following (Err left) next e = absurd cc

-- a piece that was not read
pub stopped : (e : Stop) (before front : List ℕ) (first : Result (List ℕ × List ℕ) ℕ) (next : List
    ℕ × List ℕ → Result (List ℕ × List ℕ) ℕ) → Stops e (after before first) → Stops e (after front
    (first >>= next))
stopped Memory before front first next h = tt
stopped (Cut left) before front (Ok x) next h = absurd cc
stopped (Cut left) before front (Err l) next h = h

pub nothing_before : (items following : List ℕ) (read : Result (List ℕ × List ℕ) ℕ) → after [] read
    ≡ Ok (items, following) → read ≡ Ok (items, following)
nothing_before items following (Ok x) e = e
nothing_before items following (Err left) e = e
