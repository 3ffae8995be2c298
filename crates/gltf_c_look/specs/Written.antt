-- What a call writes where it is wanted.
use Rattle.std.specs.Prelude.{◌≡◌, Bool, true, false, Option, Some, None}

-- what is there is written, and the answer is yes; else nothing is
abbrev pub IsWritten : {X : Type 0} → Option X → Bool → X → X → Type 0
IsWritten None answer old new = (answer ≡ false) × (new ≡ old)
IsWritten (Some x) answer old new = (answer ≡ true) × (new ≡ x)
