-- What was read, joined.
use Rattle.std.proofs.Common.{◌≡◌, ap}
use Rattle.std.specs.Prelude.{Option, Some, None, SomeIff, option_map}

-- a value that is there exactly where P holds, and what is made of it
pub made_of_it : {X Y : Type 0} (P : Type 0) (f : X → Y) (v : X) (read : Option X)
    (found : Option Y) → found ≡ option_map f read → SomeIff read P v → SomeIff found P (f v)
made_of_it P f v None found told h = rw told h
made_of_it P f v (Some x) found told h = rw told (h.0, ap f h.1)
