-- Headers that come from a reader: more bytes do not change their faults. Twelve bytes decide
-- (`front_kept`, by naming each of them), and so do four that are not `glTF` (`magic_kept`); fewer
-- are `Short` (`short_tag`, `short_header`). For `front_of`, `read_bytes` and the laws in
-- `ReaderLaws`. `header_of_front` and `front_of_header` go between the table of faults of a
-- reader's header and that of a slice's, by cases on the rows' conditions.
use Rattle.std.proofs.Common.{◌≡◌, ℕ, ◌≤◌, ◌<◌, List, [], ◌∷◌, ◌++◌, length, Bool, true, false}
use Rattle.std.proofs.Common.{nat_lt, Some, None, ◌==◌, ◌||◌, not, refl, arith, length-append, ap}
use Rattle.std.proofs.Common.{◌∙◌}
use Rattle.std.proofs.lemmas.Bool.{le-ltb, lt-ltb}
use Rattle.std.specs.Str.{bytes_eq}
use Rattle.gltf_glb.specs.Bytes.{magic, word_at, tag_at}
use Rattle.gltf_glb.specs.Faults.{Fault, Short, NotMagic, WrongVersion, WrongLength, first_row}
use Rattle.gltf_glb.specs.Faults.{header_fault, front_fault}

record Kept (came rest : List ℕ) : Type 0 where
  tag : tag_at 0 (came ++ rest) ≡ tag_at 0 came
  version : word_at 4 (came ++ rest) ≡ word_at 4 came
  total : word_at 8 (came ++ rest) ≡ word_at 8 came

kept : (came rest : List ℕ) → 12 ≤ length came → Kept came rest
unfolding word_at
kept (a ∷ b ∷ c ∷ d ∷ e ∷ f ∷ g ∷ h ∷ i ∷ j ∷ k ∷ l ∷ xs) rest long =
    record { tag = refl; version = refl; total = refl }
kept _ rest long = absurd (omega arith)

pub total_kept : (came rest : List ℕ) → 12 ≤ length came → word_at 8 (came ++ rest) ≡ word_at 8 came
total_kept came rest long = (kept came rest long).total

pub tag_kept : (came rest : List ℕ) → 4 ≤ length came → tag_at 0 (came ++ rest) ≡ tag_at 0 came
tag_kept (a ∷ b ∷ c ∷ d ∷ xs) rest long = refl
tag_kept _ rest long = absurd (omega arith)

-- twelve bytes decide
pub front_kept : (came rest : List ℕ) → 12 ≤ length came
    → front_fault (came ++ rest) ≡ front_fault came
unfolding front_fault
front_kept came rest long =
    let same = kept came rest long in
    let long' : 12 ≤ length (came ++ rest) = omega (arith, length-append came rest) in
    let four : nat_lt (length came) 4 ≡ false = le-ltb (length came) 4 (omega arith) in
    let four' : nat_lt (length (came ++ rest)) 4 ≡ false =
    le-ltb (length (came ++ rest)) 4 (omega (arith, length-append came rest)) in
    let twelve : nat_lt (length came) 12 ≡ false = le-ltb (length came) 12 long in
    let twelve' : nat_lt (length (came ++ rest)) 12 ≡ false =
    le-ltb (length (came ++ rest)) 12 long' in
    rw (four, four', twelve, twelve', same.tag, same.version, same.total) refl

-- four bytes that are not `glTF` decide
pub magic_kept : (came rest : List ℕ) → 4 ≤ length came → bytes_eq (tag_at 0 came) magic ≡ false
    → front_fault (came ++ rest) ≡ Some (NotMagic (tag_at 0 came))
unfolding front_fault
magic_kept came rest long other =
    let four' : nat_lt (length (came ++ rest)) 4 ≡ false =
    le-ltb (length (came ++ rest)) 4 (omega (arith, length-append came rest)) in
    rw (four', tag_kept came rest long, other) refl

-- too few bytes for a header
pub short_tag : (came : List ℕ) → length came < 4 → front_fault came ≡ Some Short
unfolding front_fault
short_tag came few = let four : nat_lt (length came) 4 ≡ true = lt-ltb (length came) 4 few in
    rw four refl

pub short_header : (all head more : List ℕ) → all ≡ head ++ more → length head ≡ 4
    → tag_at 0 head ≡ magic → length all < 12 → front_fault all ≡ Some Short
unfolding front_fault
short_header all head more is four magic_is few =
    let long : nat_lt (length all) 4 ≡ false =
    le-ltb (length all) 4 (omega (arith, ap length is, length-append head more)) in
    let tag : tag_at 0 all ≡ magic = ap (tag_at 0) is ∙ tag_kept head more (omega arith)
    ∙ magic_is in
    let twelve : nat_lt (length all) 12 ≡ true = lt-ltb (length all) 12 few in
    rw (long, tag, twelve) refl

-- ---- which rows do not fit where none does

to_header : (a b c v t l : Bool) (p q r s u w : Fault)
    → first_row ((a, Some p) ∷ (b, Some q) ∷ (c, Some r) ∷ (v, Some s) ∷ (t, Some u) ∷ []) ≡ None
    → l ≡ false
    → first_row ((a, Some p) ∷ (b, Some q) ∷ (c, Some r) ∷ (t || l, Some w) ∷ (v, Some s) ∷ []) ≡
    None
to_header true b c v t l p q r s u w none room = cc
to_header false true c v t l p q r s u w none room = cc
to_header false false true v t l p q r s u w none room = cc
to_header false false false true t l p q r s u w none room = cc
to_header false false false false true l p q r s u w none room = cc
to_header false false false false false l p q r s u w none room = rw room refl

to_front : (a b c v t l : Bool) (p q r s u w : Fault)
    → first_row ((a, Some p) ∷ (b, Some q) ∷ (c, Some r) ∷ (t || l, Some w) ∷ (v, Some s) ∷ []) ≡
    None
    → (first_row ((a, Some p) ∷ (b, Some q) ∷ (c, Some r) ∷ (v, Some s) ∷ (t, Some u) ∷ []) ≡ None)
    × (l ≡ false)
to_front true b c v t l p q r s u w none = cc
to_front false true c v t l p q r s u w none = cc
to_front false false true v t l p q r s u w none = cc
to_front false false false v true l p q r s u w none = cc
to_front false false false v false true p q r s u w none = cc
to_front false false false true false false p q r s u w none = cc
to_front false false false false false false p q r s u w none = (refl, refl)

-- a header that a reader gave, and the bytes up to the declared end
pub header_of_front : (bytes : List ℕ) → front_fault bytes ≡ None
    → nat_lt (length bytes) (word_at 8 bytes) ≡ false → header_fault bytes ≡ None
unfolding front_fault header_fault
header_of_front bytes none room =
    to_header (nat_lt (length bytes) 4) (not (bytes_eq (tag_at 0 bytes) magic))
    (nat_lt (length bytes) 12) (not (word_at 4 bytes == 2)) (nat_lt (word_at 8 bytes) 12)
    (nat_lt (length bytes) (word_at 8 bytes))
    Short (NotMagic (tag_at 0 bytes)) Short (WrongVersion (word_at 4 bytes))
    (WrongLength (word_at 8 bytes) 12) (WrongLength (word_at 8 bytes) (length bytes)) none room

pub front_of_header : (bytes : List ℕ) → header_fault bytes ≡ None
    → (front_fault bytes ≡ None) × (nat_lt (length bytes) (word_at 8 bytes) ≡ false)
unfolding front_fault header_fault
front_of_header bytes none =
    to_front (nat_lt (length bytes) 4) (not (bytes_eq (tag_at 0 bytes) magic))
    (nat_lt (length bytes) 12) (not (word_at 4 bytes == 2)) (nat_lt (word_at 8 bytes) 12)
    (nat_lt (length bytes) (word_at 8 bytes))
    Short (NotMagic (tag_at 0 bytes)) Short (WrongVersion (word_at 4 bytes))
    (WrongLength (word_at 8 bytes) 12) (WrongLength (word_at 8 bytes) (length bytes)) none
