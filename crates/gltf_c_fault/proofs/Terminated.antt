-- Text that was written to the front of a room.
use Rattle.std.proofs.Common.{◌≡◌, ℕ, suc, ◌-◌, ◌<◌, List, [], ◌∷◌, ◌++◌, length}
use Rattle.std.proofs.Common.{take, drop, set, refl, sym, ap, subst, true≢false, arith}
use Rattle.std.specs.Prelude.{min, ◌==◌, false}
use Rattle.std.proofs.lemmas.List.{length-take-le}
use Rattle.gltf_c_fault.specs.Message.{text_in_room}

-- a byte that is set after a front
ended : (byte : ℕ) (front room : List ℕ) → length front < length room
    → set (front ++ drop (length front) room) (length front) byte
    ≡ front ++ (byte ∷ drop (suc (length front)) room)
ended byte [] [] fits = absurd (omega (arith, fits))
ended byte [] (y ∷ room) fits = refl
ended byte (x ∷ front) [] fits = absurd (omega (arith, fits))
ended byte (x ∷ front) (y ∷ room) fits =
    ap (λ (rest : List ℕ). x ∷ rest) (ended byte front room (omega (arith, fits)))

pub is_terminated : (text room front : List ℕ) (n : ℕ) → n ≡ min (length text) (length room - 1)
    → front ≡ take n text → (length room == 0) ≡ false
    → set (front ++ drop n room) n 0 ≡ text_in_room text room
is_terminated text [] front n count is some = absurd (true≢false some)
is_terminated text (y ∷ room) front n count is some =
    let len : length (take n text) ≡ n = length-take-le n text (omega (arith, count)) in
    let fits : length (take n text) < length (y ∷ room) = omega (arith, len, count) in
    let wrote : set (take n text ++ drop n (y ∷ room)) n 0
    ≡ take n text ++ (0 ∷ drop (suc n) (y ∷ room)) =
    subst (λ (k : ℕ). set (take n text ++ drop k (y ∷ room)) k 0
    ≡ take n text ++ (0 ∷ drop (suc k) (y ∷ room))) len (ended 0 (take n text) (y ∷ room) fits) in
    subst
    (λ (front' : List ℕ). set (front' ++ drop n (y ∷ room)) n 0 ≡ text_in_room text (y ∷ room))
    (sym is) (subst (λ (k : ℕ). set (take n text ++ drop n (y ∷ room)) n 0
    ≡ take k text ++ (0 ∷ drop (suc k) (y ∷ room))) count wrote)
