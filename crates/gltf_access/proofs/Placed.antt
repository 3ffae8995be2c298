-- What stands in the columns of an item at a place there.
use Rattle.std.proofs.Common.{◌≡◌, ℕ, zero, suc, ◌+◌, ◌-◌, ◌*◌, ◌<◌, ◌≤◌, List, ◌++◌, length, take}
use Rattle.std.proofs.Common.{drop, sym, ap, subst, ◌∙◌, arith}
use Rattle.std.specs.List.{concat}
use Rattle.std.proofs.Math.Nat.{mul-le-mul_left}
use Rattle.std.proofs.lemmas.List.{drop-drop, drop-take, take-take, length-drop, length-take-le}
use Rattle.std.proofs.lemmas.List.{drop_at, take-append-le}
use Rattle.gltf_items.specs.Reading.{in_row}

-- in a column
first_at : (c o n : ℕ) (bytes rest : List ℕ) → o + n ≤ c → c ≤ length bytes
    → take n (drop o (take c bytes ++ rest)) ≡ take n (drop o bytes)
first_at c o n bytes rest within room =
    let left : c ≡ o + (c - o) = omega (arith, within) in
    let there : take (o + n) (take c bytes ++ rest) ≡ take (o + n) bytes =
    let len : length (take c bytes) ≡ c = length-take-le c bytes room in
    let fits : o + n ≤ length (take c bytes) = omega (arith, len, within) in
    take-append-le (o + n) (take c bytes) rest fits ∙ take-take (o + n) c bytes within in
    sym (drop-take o n (take c bytes ++ rest)) ∙ ap (λ (z : List ℕ). drop o z) there
    ∙ drop-take o n bytes

before : (k : ℕ) → suc k - 1 ≡ k
before k = omega arith

-- and in a row of these
pub row_at : (k s c j o n : ℕ) (bytes : List ℕ) → j < k → o + n ≤ c → c ≤ s
    → (k - 1) * s + c ≤ length bytes
    → take n (drop (j * c + o) (concat (in_row k s (take c) bytes)))
    ≡ take n (drop (j * s + o) bytes)
row_at zero s c j o n bytes less within short room = absurd (omega (arith, less))
row_at (suc k) s c zero o n bytes less within short room =
    let rest = concat (in_row k s (take c) (drop s bytes)) in
    let here : 0 * c + o ≡ o = omega arith in
    let there : o ≡ 0 * s + o = omega arith in
    let last : k * s + c ≤ length bytes =
    subst (λ (m : ℕ). m * s + c ≤ length bytes) (before k) room in
    ap (λ (m : ℕ). take n (drop m (take c bytes ++ rest))) here
    ∙ first_at c o n bytes rest within (omega (arith, last))
    ∙ ap (λ (m : ℕ). take n (drop m bytes)) there
row_at (suc zero) s c (suc j) o n bytes less within short room = absurd (omega (arith, less))
row_at (suc (suc k)) s c (suc j) o n bytes less within short room =
    let rest = concat (in_row (suc k) s (take c) (drop s bytes)) in
    let last : suc k * s + c ≤ length bytes =
    subst (λ (m : ℕ). m * s + c ≤ length bytes) (before (suc k)) room in
    let next : suc k * s ≡ s + k * s = omega arith in
    let len : length (take c bytes) ≡ c = length-take-le c bytes (omega (arith, last)) in
    let on : suc j * c + o ≡ c + (j * c + o) = omega arith in
    let to : s + (j * s + o) ≡ suc j * s + o = omega arith in
    let left : (suc k - 1) * s + c ≤ length (drop s bytes) =
    subst (λ (m : ℕ). m * s + c ≤ length (drop s bytes)) (sym (before k))
    (omega (arith, last, next, length-drop s bytes)) in
    ap (λ (m : ℕ). take n (drop m (take c bytes ++ rest))) on
    ∙ ap (take n) (sym (drop-drop (j * c + o) c (take c bytes ++ rest)))
    ∙ ap (λ (z : List ℕ). take n (drop (j * c + o) z)) (drop_at (take c bytes) rest c len)
    ∙ row_at (suc k) s c j o n (drop s bytes) (omega (arith, less)) within short left
    ∙ ap (take n) (drop-drop (j * s + o) s bytes)
    ∙ ap (λ (m : ℕ). take n (drop m bytes)) to

-- ---- the places of rows in a column

pub place_of : (column rows row component c : ℕ) → c ≡ rows * component
    → (column * rows + row) * component ≡ column * c + row * component
place_of column rows row component c is =
    let all : column * c ≡ column * (rows * component) = ap (λ (n : ℕ). column * n) is in
    omega (arith, all)

pub row_within : (row rows component c : ℕ) → row < rows → c ≡ rows * component
    → row * component + component ≤ c
row_within row rows component c less is =
    let next : suc row ≤ rows = omega (arith, less) in
    omega (arith, mul-le-mul_left component next, is)
