-- The columns of an item, without what lies between these.
use Rattle.std.proofs.Common.{◌≡◌, ℕ, zero, suc, ◌+◌, ◌-◌, ◌*◌, ◌<◌, ◌≤◌, List, [], ◌∷◌, ◌++◌}
use Rattle.std.proofs.Common.{length, take, drop, refl, sym, ap, ◌∙◌, subst, arith}
use Rattle.std.specs.Prelude.{replicate}
use Rattle.std.specs.List.{concat}
use Rattle.std.proofs.Math.Nat.{mul-le-mul_left}
use Rattle.std.proofs.Math.Seq.{take-add, drop-length}
use Rattle.std.proofs.lemmas.List.{append-nil, append_assoc, drop-drop, drop-take, take-take}
use Rattle.std.proofs.lemmas.List.{length-append, length-drop, length-take-le, take-replicate}
use Rattle.std.proofs.lemmas.List.{drop-replicate, replicate-append-replicate, take_at, drop_at}
use Rattle.gltf_items.specs.Reading.{in_row}

-- one more column
pub row_more : (k s c : ℕ) (bytes : List ℕ)
    → concat (in_row (suc k) s (take c) bytes)
    ≡ concat (in_row k s (take c) bytes) ++ take c (drop (k * s) bytes)
row_more zero s c bytes =
    let none : 0 * s ≡ 0 = omega arith in
    append-nil (take c bytes) ∙ ap (λ (n : ℕ). take c (drop n bytes)) (sym none)
row_more (suc k) s c bytes =
    let on : s + k * s ≡ suc k * s = omega arith in
    ap (λ (z : List ℕ). take c bytes ++ z) (row_more k s c (drop s bytes))
    ∙ sym (append_assoc (take c bytes) (concat (in_row k s (take c) (drop s bytes)))
    (take c (drop (k * s) (drop s bytes))))
    ∙ ap (λ (z : List ℕ). (take c bytes ++ concat (in_row k s (take c) (drop s bytes))) ++ take c z)
    (drop-drop (k * s) s bytes ∙ ap (λ (n : ℕ). drop n bytes) on)

-- they have the bytes of all columns
pub row_length : (k s c : ℕ) (bytes : List ℕ) → c ≤ s → k * s ≤ length bytes
    → length (concat (in_row k s (take c) bytes)) ≡ k * c
row_length zero s c bytes short room = omega arith
row_length (suc k) s c bytes short room =
    let left : k * s ≤ length (drop s bytes) = omega (arith, room, length-drop s bytes) in
    let here : length (take c bytes) ≡ c = length-take-le c bytes (omega (arith, short, room)) in
    length-append (take c bytes) (concat (in_row k s (take c) (drop s bytes)))
    ∙ omega (arith, here, row_length k s c (drop s bytes) short left)

before : (k : ℕ) → suc k - 1 ≡ k
before k = omega arith

-- what follows the last of them plays no part
pub row_front : (k s c n : ℕ) (bytes : List ℕ) → c ≤ s → (k - 1) * s + c ≤ n
    → in_row k s (take c) (take n bytes) ≡ in_row k s (take c) bytes
row_front zero s c n bytes short ends = refl
row_front (suc zero) s c n bytes short ends =
    ap (λ (z : List ℕ). z ∷ []) (take-take c n bytes (omega (arith, ends)))
row_front (suc (suc k)) s c n bytes short ends =
    let more : suc k * s + c ≤ n =
    subst (λ (m : ℕ). m * s + c ≤ n) (before (suc k)) ends in
    let on : suc k * s ≡ s + k * s = omega arith in
    let whole : n ≡ s + (n - s) = omega (arith, more, on) in
    let first : take c (take n bytes) ≡ take c bytes =
    take-take c n bytes (omega (arith, more)) in
    let cut : drop s (take n bytes) ≡ take (n - s) (drop s bytes) =
    ap (λ (m : ℕ). drop s (take m bytes)) whole ∙ drop-take s (n - s) bytes in
    let left : (suc k - 1) * s + c ≤ n - s =
    subst (λ (m : ℕ). m * s + c ≤ n - s) (sym (before k)) (omega (arith, more, on)) in
    ap (λ (z : List ℕ). z ∷ in_row (suc k) s (take c) (drop s (take n bytes))) first
    ∙ ap (λ (z : List ℕ). take c bytes ∷ in_row (suc k) s (take c) z) cut
    ∙ ap (λ z. take c bytes ∷ z) (row_front (suc k) s c (n - s) (drop s bytes) short left)

-- with nothing between them they are the bytes as they stand
pub row_tight : (k s c : ℕ) (bytes : List ℕ) → s ≡ c
    → concat (in_row k s (take c) bytes) ≡ take (k * c) bytes
row_tight zero s c bytes is =
    let none : 0 ≡ 0 * c = omega arith in
    ap (λ (n : ℕ). take n bytes) none
row_tight (suc k) s c bytes is =
    let all : c + k * c ≡ suc k * c = omega arith in
    ap (λ (z : List ℕ). take c bytes ++ z) (row_tight k s c (drop s bytes) is)
    ∙ ap (λ (n : ℕ). take c bytes ++ take (k * c) (drop n bytes)) is
    ∙ sym (take-add c (k * c) bytes)
    ∙ ap (λ (n : ℕ). take n bytes) all

-- of zeros they are zeros
pub row_zeros : (k s c n : ℕ) → c ≤ s → (k - 1) * s + c ≤ n
    → concat (in_row k s (take c) (replicate n 0)) ≡ replicate (k * c) 0
row_zeros zero s c n short ends =
    let none : 0 ≡ 0 * c = omega arith in
    ap (λ (n : ℕ). replicate n 0) none
row_zeros (suc zero) s c n short ends =
    let all : c ≡ 1 * c = omega arith in
    append-nil (take c (replicate n 0)) ∙ take-replicate c n 0 (omega (arith, ends))
    ∙ ap (λ (n : ℕ). replicate n 0) all
row_zeros (suc (suc k)) s c n short ends =
    let more : suc k * s + c ≤ n =
    subst (λ (m : ℕ). m * s + c ≤ n) (before (suc k)) ends in
    let on : suc k * s ≡ s + k * s = omega arith in
    let left : (suc k - 1) * s + c ≤ n - s =
    subst (λ (m : ℕ). m * s + c ≤ n - s) (sym (before k)) (omega (arith, more, on)) in
    let all : c + suc k * c ≡ suc (suc k) * c = omega arith in
    ap (λ (z : List ℕ). z ++ concat (in_row (suc k) s (take c) (drop s (replicate n 0))))
    (take-replicate c n 0 (omega (arith, more)))
    ∙ ap (λ (z : List ℕ). replicate c 0 ++ concat (in_row (suc k) s (take c) z))
    (drop-replicate s n 0)
    ∙ ap (λ (z : List ℕ). replicate c 0 ++ z) (row_zeros (suc k) s c (n - s) short left)
    ∙ replicate-append-replicate c (suc k * c) 0
    ∙ ap (λ (n : ℕ). replicate n 0) all

-- ---- written one after another

pub no_columns : (s c : ℕ) (item old : List ℕ)
    → old ≡ concat (in_row 0 s (take c) item) ++ drop (0 * c) old
no_columns s c item old =
    let none : 0 ≡ 0 * c = omega arith in
    ap (λ (n : ℕ). drop n old) none

-- what stands behind the columns so far makes way for the next one
next_suc : (k s c : ℕ) (item old out : List ℕ) → c ≤ s → k * s ≤ length item
    → out ≡ concat (in_row k s (take c) item) ++ drop (k * c) old
    → take (k * c) out ++ take c (drop (k * s) item) ++ drop (k * c + c) out
    ≡ concat (in_row (suc k) s (take c) item) ++ drop (suc k * c) old
next_suc k s c item old out short room is =
    let done = concat (in_row k s (take c) item) in
    let len : length done ≡ k * c = row_length k s c item short room in
    let on : k * c + c ≡ suc k * c = omega arith in
    let front : take (k * c) out ≡ done =
    ap (take (k * c)) is ∙ take_at done (drop (k * c) old) (k * c) len in
    let behind : drop (k * c) out ≡ drop (k * c) old =
    ap (drop (k * c)) is ∙ drop_at done (drop (k * c) old) (k * c) len in
    let rest : drop (k * c + c) out ≡ drop (suc k * c) old =
    sym (drop-drop c (k * c) out) ∙ ap (drop c) behind ∙ drop-drop c (k * c) old
    ∙ ap (λ (n : ℕ). drop n old) on in
    ap (λ (z : List ℕ). z ++ take c (drop (k * s) item) ++ drop (k * c + c) out) front
    ∙ ap (λ (z : List ℕ). done ++ take c (drop (k * s) item) ++ z) rest
    ∙ ap (λ (z : List ℕ). z ++ drop (suc k * c) old) (sym (row_more k s c item))

pub next_column : (k s c : ℕ) (item old out new : List ℕ) → c ≤ s → k * s ≤ length item
    → out ≡ concat (in_row k s (take c) item) ++ drop (k * c) old
    → new ≡ take (k * c) out ++ take c (drop (k * s) item) ++ drop (k * c + c) out
    → new ≡ concat (in_row (k + 1) s (take c) item) ++ drop ((k + 1) * c) old
next_column k s c item old out new short room is written =
    let more : suc k ≡ k + 1 = omega arith in
    written ∙ next_suc k s c item old out short room is
    ∙ ap (λ (n : ℕ). concat (in_row n s (take c) item) ++ drop (n * c) old) more

pub all_columns : (k n s c : ℕ) (item old out : List ℕ) → k ≡ n → length old ≡ n * c
    → out ≡ concat (in_row k s (take c) item) ++ drop (k * c) old
    → out ≡ concat (in_row n s (take c) item)
all_columns k n s c item old out all room is =
    let whole : k * c ≡ length old = ap (λ (m : ℕ). m * c) all ∙ sym room in
    is
    ∙ ap (λ (m : ℕ). concat (in_row k s (take c) item) ++ drop m old) whole
    ∙ ap (λ (z : List ℕ). concat (in_row k s (take c) item) ++ z) (drop-length old)
    ∙ append-nil (concat (in_row k s (take c) item))
    ∙ ap (λ (m : ℕ). concat (in_row m s (take c) item)) all

-- the places of a column in an item and in a room
pub column_in : (i k s c n : ℕ) → i < k → n ≡ (k - 1) * s + c → i * s + c ≤ n
column_in i k s c n less is =
    let next : i ≤ k - 1 = omega (arith, less) in
    omega (arith, mul-le-mul_left s next, is)

pub spread : (i c p : ℕ) → i * c + i * p ≡ i * (c + p)
spread i c p = omega arith

pub room_in : (i k c n : ℕ) → i < k → n ≡ k * c → i * c + c ≤ n
room_in i k c n less is =
    let next : suc i ≤ k = omega (arith, less) in
    omega (arith, mul-le-mul_left c next, is)
