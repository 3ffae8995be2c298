-- Bytes that become zeros.
use Rattle.std.proofs.Common.{◌≡◌, ℕ, zero, suc, ◌+◌, ◌-◌, ◌<◌, ◌≤◌, List, [], ◌∷◌, ◌++◌, length}
use Rattle.std.proofs.Common.{get_or, set, take, drop, replicate, min, Bool, true, false}
use Rattle.std.proofs.Common.{refl, sym, ap, subst, ◌∙◌, arith, Vec, Global, Option, Some}
use Rattle.std.proofs.Common.{codes, nat_lt, nat_le, ⊎_elim, inl, inr, ◌⊎◌}
use Rattle.std.proofs.lemmas.Bool.{leb-true, leb-false, ltb-true, ltb-false, le-leb, lt-ltb}
use Rattle.std.proofs.lemmas.Bool.{and_parts, and_cases, cases_lt, cases_eq, eq-eqb, ne_eqb}
use Rattle.std.proofs.lemmas.Bool.{cond-false}
use Rattle.std.proofs.lemmas.List.{get_or_append_left, get_or-append_right, get_or-take}
use Rattle.std.proofs.lemmas.List.{get_or-drop, get_or_past, length-take-le, length-replicate}
use Rattle.std.proofs.lemmas.List.{length-take, length-drop, length-append, take_all, drop_all}
use Rattle.std.proofs.lemmas.List.{append-nil}
use Rattle.std.specs.Prelude.{if◌then◌else◌, ◌&&◌}
use Rattle.serde_json.specs.Data.{Data}
use Rattle.gltf_edit.specs.Bundled.{size_at, size_or_zero}
use Rattle.gltf_trim.specs.Lengths.{is_between, is_in, is_index, view_end}
use Rattle.gltf_trim.specs.Tails.{bytes_of, byte_at}

-- ---- tests

pub same_test : (b c : Bool) → (b ≡ true → c ≡ true) → (c ≡ true → b ≡ true) → b ≡ c
same_test true true to from = refl
same_test true false to from = sym (to refl)
same_test false true to from = from refl
same_test false false to from = refl

between_true : (from to i : ℕ) → is_between from to i ≡ true → (from ≤ i) × (i < to)
between_true from to i is =
    let parts = and_parts (nat_le from i) (nat_lt i to) is in
    (leb-true from i parts.0, ltb-true i to parts.1)

between_false : (from to i : ℕ) → is_between from to i ≡ false → (i < from) ⊎ (to ≤ i)
between_false from to i is =
    ⊎_elim (λ e. inl (leb-false from i e)) (λ e. inr (ltb-false i to e))
    (and_cases (nat_le from i) (nat_lt i to) is)

-- ---- zeros in one list

zeros : (n i : ℕ) → ◌≡◌ {A = ℕ} (get_or (replicate n 0) i 0) 0
zeros zero i = refl
zeros (suc n) zero = refl
zeros (suc n) (suc i) = zeros n i

module _ (xs : List ℕ) (a k : ℕ) (fits : a + k ≤ length xs) where
  abbrev pub blank : List ℕ
  blank = take a xs ++ (replicate k 0 ++ drop k (drop a xs))

  front_long : length (take a xs) ≡ a
  front_long = length-take-le a xs (omega arith)

  pub blank_long : length (take a xs ++ (replicate k 0 ++ drop k (drop a xs))) ≡ length xs
  blank_long =
      let front = front_long in
      let one = length-append (take a xs) (replicate k 0 ++ drop k (drop a xs)) in
      let two = length-append (replicate k 0) (drop k (drop a xs)) in
      let middle = length-replicate {A = ℕ} k 0 in
      let back = length-drop k (drop a xs) in
      let rest = length-drop a xs in
      omega (arith, front, one, two, middle, back, rest)

  blank_front : (i : ℕ) → i < a → get_or blank i 0 ≡ get_or xs i 0
  blank_front i h =
      let long = front_long in
      get_or_append_left (take a xs) (replicate k 0 ++ drop k (drop a xs)) 0 i (omega (arith, long))
      ∙ get_or-take a xs i 0 h

  blank_rest : (i : ℕ) → a ≤ i
      → get_or blank i 0 ≡ get_or (replicate k 0 ++ drop k (drop a xs)) (i - a) 0
  blank_rest i h =
      get_or-append_right (take a xs) (replicate k 0 ++ drop k (drop a xs)) a i 0 front_long h

  blank_middle : (i : ℕ) → a ≤ i → i < a + k → get_or blank i 0 ≡ 0
  blank_middle i h below =
      let long = length-replicate {A = ℕ} k 0 in
      blank_rest i h
      ∙ get_or_append_left (replicate k 0) (drop k (drop a xs)) 0 (i - a) (omega (arith, long))
      ∙ zeros k (i - a)

  blank_back : (i : ℕ) → a + k ≤ i → get_or blank i 0 ≡ get_or xs i 0
  blank_back i h =
      blank_rest i (omega arith)
      ∙ get_or-append_right (replicate k 0) (drop k (drop a xs)) k (i - a) 0
      (length-replicate k 0) (omega arith)
      ∙ get_or-drop k (drop a xs) (i - a - k) 0
      ∙ get_or-drop a xs (k + (i - a - k)) 0
      ∙ ap (λ (n : ℕ). get_or xs n 0) (omega arith)

-- zeros from one place up to another, as far as the list goes
module _ (xs : List ℕ) (from to a end : ℕ) (end_is : end ≡ min to (length xs))
    (a_is : a ≡ min from end) (i : ℕ) where
  fits : a + (end - a) ≤ length xs
  fits = omega arith

  cleared_in : (from ≤ i) × (i < to) → get_or (blank xs a (end - a) fits) i 0 ≡ 0
  cleared_in h =
      ⊎_elim (λ inside. blank_middle xs a (end - a) fits i (omega arith) (omega arith))
      (λ past. blank_back xs a (end - a) fits i (omega arith) ∙ get_or_past xs i 0 past)
      (cases_lt i (length xs))

  cleared_out : (i < from) ⊎ (to ≤ i)
      → get_or (blank xs a (end - a) fits) i 0 ≡ get_or xs i 0
  cleared_out h =
      ⊎_elim (λ before. blank_front xs a (end - a) fits i before)
      (λ behind. blank_back xs a (end - a) fits i
      (⊎_elim {C = a + (end - a) ≤ i} (λ low. omega arith) (λ high. omega arith) h))
      (cases_lt i a)

  cleared_if : (b : Bool) → is_between from to i ≡ b
      → get_or (blank xs a (end - a) fits) i 0 ≡ (if b then 0 else get_or xs i 0)
  cleared_if true is = cleared_in (between_true from to i is)
  cleared_if false is = cleared_out (between_false from to i is)

  pub cleared : get_or (take a xs ++ (replicate (end - a) 0 ++ drop (end - a) (drop a xs))) i 0
      ≡ (if is_between from to i then 0 else get_or xs i 0)
  cleared = cleared_if (is_between from to i) refl

-- what a vector holds once a part of it was written so
pub cleared_in_vec : (xs held filled : List ℕ) (n from to a end i : ℕ) → held ≡ xs → n ≡ length xs
    → end ≡ min to n → a ≡ min from end
    → filled ≡ replicate (length (take (end - a) (drop a held))) 0
    → get_or (take n (take a held ++ (filled ++ drop (end - a) (drop a held))
    ++ drop (length (take a held ++ (filled ++ drop (end - a) (drop a held)))) xs)) i 0
    ≡ (if is_between from to i then 0 else get_or xs i 0)
cleared_in_vec xs held filled n from to a end i same long end_is a_is filled_is =
    let ends : end ≡ min to (length xs) = end_is ∙ ap (min to) long in
    let k = end - a in
    let part = length-take k (drop a xs) in
    let past = length-drop a xs in
    let many : length (take k (drop a xs)) ≡ k = omega (arith, part, past, ends, a_is) in
    let made : take a held ++ (filled ++ drop k (drop a held))
    ≡ take a xs ++ (replicate k 0 ++ drop k (drop a xs)) =
    rw (filled_is, same, many) refl in
    let ys : List ℕ = take a xs ++ (replicate k 0 ++ drop k (drop a xs)) in
    let whole : length ys ≡ length xs = blank_long xs a k (fits xs from to a end ends a_is i) in
    ap (λ (zs : List ℕ). get_or (take n (zs ++ drop (length zs) xs)) i 0) made
    ∙ ap (λ (zs : List ℕ). get_or (take n (ys ++ zs)) i 0)
    (drop_all (length ys) xs (omega (arith, whole)))
    ∙ ap (λ (zs : List ℕ). get_or (take n zs) i 0) (append-nil ys)
    ∙ ap (λ (zs : List ℕ). get_or zs i 0) (take_all n ys (omega (arith, whole, long)))
    ∙ cleared xs from to a end ends a_is i

-- ---- a view in a tail

shifted_from : (o e i : ℕ) → nat_le (o - e) i ≡ nat_le o (e + i)
shifted_from o e i =
    same_test (nat_le (o - e) i) (nat_le o (e + i))
    (λ is. let h = leb-true (o - e) i is in le-leb o (e + i) (omega arith))
    (λ is. let h = leb-true o (e + i) is in le-leb (o - e) i (omega arith))

shifted_to : (t e i : ℕ) → nat_lt i (t - e) ≡ nat_lt (e + i) t
shifted_to t e i =
    same_test (nat_lt i (t - e)) (nat_lt (e + i) t)
    (λ is. let h = ltb-true i (t - e) is in lt-ltb (e + i) t (omega arith))
    (λ is. let h = ltb-true (e + i) t is in lt-ltb i (t - e) (omega arith))

shifted : (o t e i : ℕ) → is_between (o - e) (t - e) i ≡ is_between o t (e + i)
shifted o t e i =
    ap (λ (b : Bool). b && nat_lt i (t - e)) (shifted_from o e i)
    ∙ ap (λ (b : Bool). nat_le o (e + i) && b) (shifted_to t e i)

is_in_own : (b i : ℕ) (d : Data) → size_at (codes "buffer") d ≡ Some b
    → is_in b i d ≡ is_between (size_or_zero (codes "byteOffset") d) (view_end d) i
is_in_own b i d is =
    let inside = is_between (size_or_zero (codes "byteOffset") d) (view_end d) i in
    ap (λ (o : Option ℕ). is_index b o && inside) is
    ∙ ap (λ (t : Bool). t && inside) (eq-eqb b b refl)

is_in_other : (b c i : ℕ) (d : Data) → size_at (codes "buffer") d ≡ Some c → (c ≡ b → ⊥)
    → is_in b i d ≡ false
is_in_other b c i d is apart =
    let inside = is_between (size_or_zero (codes "byteOffset") d) (view_end d) i in
    ap (λ (o : Option ℕ). is_index b o && inside) is
    ∙ ap (λ (t : Bool). t && inside) (ne_eqb c b apart)

-- ---- one tail of several

byte_same : (vs : List (Vec ℕ Global)) (b : ℕ) (v : Vec ℕ Global) (i : ℕ) → b < length vs
    → byte_at (bytes_of (set vs b v)) b i ≡ get_or v.items i 0
byte_same [] b v i h = absurd (omega arith)
byte_same (w ∷ vs) zero v i h = refl
byte_same (w ∷ vs) (suc b) v i h = byte_same vs b v i (omega arith)

byte_other : (vs : List (Vec ℕ Global)) (c : ℕ) (v : Vec ℕ Global) (b i : ℕ) → (c ≡ b → ⊥)
    → byte_at (bytes_of (set vs c v)) b i ≡ byte_at (bytes_of vs) b i
byte_other [] c v b i apart = refl
byte_other (w ∷ vs) zero v zero i apart = absurd (apart refl)
byte_other (w ∷ vs) zero v (suc b) i apart = refl
byte_other (w ∷ vs) (suc c) v zero i apart = refl
byte_other (w ∷ vs) (suc c) v (suc b) i apart = byte_other vs c v b i (λ same. apart (ap suc same))

byte_read : (vs : List (Vec ℕ Global)) (b : ℕ) (v : Vec ℕ Global) (i : ℕ) → b < length vs
    → v ≡ get_or vs b v → get_or v.items i 0 ≡ byte_at (bytes_of vs) b i
byte_read [] b v i h is = absurd (omega arith)
byte_read (w ∷ vs) zero v i h is = ap (λ (v : Vec ℕ Global). get_or v.items i 0) is
byte_read (w ∷ vs) (suc b) v i h is = byte_read vs b v i (omega arith) is

module _ (vs : List (Vec ℕ Global)) (ends : List ℕ) (d : Data) where
  -- the byte at place i of tail b, once the view has no bytes
  abbrev pub without : ℕ → ℕ → ℕ
  without b i = if is_in b (get_or ends b 0 + i) d then 0 else byte_at (bytes_of vs) b i

  out : (b i : ℕ) → is_in b (get_or ends b 0 + i) d ≡ false
      → byte_at (bytes_of vs) b i ≡ without b i
  out b i is = sym (cond-false (is_in b (get_or ends b 0 + i) d) 0 (byte_at (bytes_of vs) b i) is)

  module _ (c : ℕ) (is : size_at (codes "buffer") d ≡ Some c) where
    module _ (old v : Vec ℕ Global) (within : c < length vs) (there : old ≡ get_or vs c old)
        (from to : ℕ) (from_is : from ≡ size_or_zero (codes "byteOffset") d - get_or ends c 0)
        (to_is : to ≡ view_end d - get_or ends c 0)
        (done : (i : ℕ) → get_or v.items i 0
        ≡ (if is_between from to i then 0 else get_or old.items i 0)) where
      own : (i : ℕ) → byte_at (bytes_of (set vs c v)) c i ≡ without c i
      own i =
          let o = size_or_zero (codes "byteOffset") d in
          let e = get_or ends c 0 in
          byte_same vs c v i within
          ∙ done i
          ∙ ap (λ (n : ℕ). if is_between n to i then 0 else get_or old.items i 0) from_is
          ∙ ap (λ (n : ℕ). if is_between (o - e) n i then 0 else get_or old.items i 0) to_is
          ∙ ap (λ (t : Bool). if t then 0 else get_or old.items i 0)
          (shifted o (view_end d) e i ∙ sym (is_in_own c (e + i) d is))
          ∙ ap (λ (n : ℕ). if is_in c (e + i) d then 0 else n) (byte_read vs c old i within there)

      pub one_cleared : (b i : ℕ) → byte_at (bytes_of (set vs c v)) b i ≡ without b i
      one_cleared b i =
          ⊎_elim
          (λ same.
          subst (λ (k : ℕ). byte_at (bytes_of (set vs c v)) k i ≡ without k i) same (own i))
          (λ apart.
          byte_other vs c v b i apart
          ∙ out b i (is_in_other b c (get_or ends b 0 + i) d is apart))
          (cases_eq c b)

pub one_after_other : (p q : Bool) (x y : ℕ) → y ≡ (if p then 0 else x)
    → (if q then 0 else y) ≡ (if (if p then true else q) then 0 else x)
one_after_other true true x y is = refl
one_after_other true false x y is = is
one_after_other false true x y is = refl
one_after_other false false x y is = is
