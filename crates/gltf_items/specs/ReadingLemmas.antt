-- What reads the first bytes alone.
use Rattle.std.proofs.Common.{◌≡◌, ℕ, zero, suc, ◌+◌, ◌-◌, ◌*◌, ◌^◌, ◌<◌, ◌≤◌, List, length, take}
use Rattle.std.proofs.Common.{drop, refl, sym, ap, ◌∙◌, arith}
use Rattle.std.proofs.lemmas.List.{take-take, length-take-le, drop-take, length-drop}
use Rattle.byteorder.specs.Endian.{little_number}
use Rattle.byteorder.specs.Numbers.{little_from-take}
use Rattle.gltf_items.specs.Reading.{ReadsFront, in_row, row_size}

pub number-reads_front : (n : ℕ) → ReadsFront n (little_number n)
number-reads_front n bytes h = little_from-take 0 n n bytes (omega arith)

-- so does what is made of it
pub of-reads_front : {X Y : Type 0} (f : X → Y) (n : ℕ) (value : List ℕ → X) → ReadsFront n value
    → ReadsFront n (λ bytes. f (value bytes))
of-reads_front f n value front bytes h = ap f (front bytes h)

pub take-reads_front : (n : ℕ) → ReadsFront n (take n)
take-reads_front n bytes h = take-take n n bytes (omega arith)

pub row-positive : (n size : ℕ) → 0 < size → 0 < row_size (suc n) size
row-positive n size h = grind arith

-- it also looks at no more of a longer front
pub longer_front : {X : Type 0} (n m : ℕ) (value : List ℕ → X) (bytes : List ℕ) → ReadsFront n value
    → n ≤ m → m ≤ length bytes → value (take m bytes) ≡ value bytes
longer_front n m value bytes front short h =
    let inner : n ≤ length (take m bytes) = omega (arith, length-take-le m bytes h) in
    let back : take n (take m bytes) ≡ take n bytes = take-take n m bytes short in
    sym (front (take m bytes) inner) ∙ ap value back ∙ front bytes (omega arith)

row-front : {X : Type 0} (n size : ℕ) (value : List ℕ → X) → ReadsFront size value
    → ReadsFront (n * size) (in_row n size value)
row-front zero size value front bytes h = refl
row-front (suc n) size value front bytes h =
    let whole : suc n * size ≡ size + n * size = omega arith in
    let first : value (take (suc n * size) bytes) ≡ value bytes =
    longer_front size (suc n * size) value bytes front (omega arith) h in
    let cut : drop size (take (suc n * size) bytes) ≡ take (n * size) (drop size bytes) =
    rw whole (drop-take size (n * size) bytes) in
    let rest : in_row n size value (take (n * size) (drop size bytes))
    ≡ in_row n size value (drop size bytes) =
    row-front n size value front (drop size bytes) (omega (arith, length-drop size bytes)) in
    rw (first, cut, rest) refl

pub row-reads_front : {X : Type 0} (n size : ℕ) (value : List ℕ → X)
    → (size < 2 ^ 64 - 1 → ReadsFront size value) → row_size (suc n) size < 2 ^ 64 - 1
    → ReadsFront (row_size (suc n) size) (in_row (suc n) size value)
row-reads_front n size value front small bytes h =
    let whole : row_size (suc n) size ≡ suc n * size = omega arith in
    let fits : size < 2 ^ 64 - 1 = omega arith in
    rw whole (row-front (suc n) size value (front fits) bytes (omega arith))
