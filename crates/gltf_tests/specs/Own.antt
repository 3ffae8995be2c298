-- What items of a caller's own read.
use Rattle.std.proofs.Common.{ℕ, ◌^◌, List, ap, arith, refl}
use Rattle.std.specs.Prelude.{slice_index}
use Rattle.std.proofs.lemmas.List.{get_or-take}
use Rattle.gltf_items.specs.Reading.{ReadsFront}

abbrev pub pair : {X : Type 0} → (ℕ → ℕ → X) → List ℕ → X
pair f bytes = f (slice_index bytes 0) (slice_index bytes 1)

pub pair-reads_front : {X : Type 0} (f : ℕ → ℕ → X) → ReadsFront 2 (pair f)
pair-reads_front f bytes h =
    rw (get_or-take 2 bytes 0 0 (omega arith), get_or-take 2 bytes 1 0 (omega arith)) refl

pub first-reads_front : {X : Type 0} (f : ℕ → X)
    → ReadsFront (2 ^ 62) (λ bytes. f (slice_index bytes 0))
first-reads_front f bytes h = ap f (get_or-take (2 ^ 62) bytes 0 0 (omega arith))
