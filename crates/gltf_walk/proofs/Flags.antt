-- Flags that are not there are false.
use Rattle.std.proofs.Common.{◌≡◌, ℕ, zero, suc, Bool, false, List, [], ◌∷◌, ◌++◌, refl}
use Rattle.std.specs.Prelude.{slice_index_or}

pub pushed : (xs : List Bool) (k : ℕ)
    → slice_index_or (xs ++ false ∷ []) k false ≡ slice_index_or xs k false
pushed [] zero = refl
pushed [] (suc k) = refl
pushed (x ∷ xs) zero = refl
pushed (x ∷ xs) (suc k) = pushed xs k
