-- What a stream holds, from what was read of its body.
use Rattle.std.proofs.Common.{◌≡◌, ℕ, Bool, true, cond, List, [], ◌++◌, Result, Ok, Err, refl, ap}
use Rattle.gltf_meshopt.specs.Reading.{after}

pub after_nothing : (front : List ℕ) (read : Result (List ℕ × List ℕ) ℕ) → front ≡ [] → after front
    read ≡ read
after_nothing front (Ok x) e = ap (λ (f : List ℕ). Ok (f ++ x.0, x.1)) e
after_nothing front (Err left) e = refl

pub at_true : {A : Type 0} (b : Bool) (x y : A) → b ≡ true → cond b x y ≡ x
at_true b x y e = ap (λ (v : Bool). cond v x y) e
