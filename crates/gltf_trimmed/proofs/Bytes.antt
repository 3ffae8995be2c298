-- What is left of bytes, and what is read of it.
use Rattle.std.proofs.Common.{◌≡◌, ℕ, zero, suc, ◌+◌, ◌-◌, ◌%◌, ◌<◌, ◌≤◌, List, [], ◌∷◌, ◌++◌}
use Rattle.std.proofs.Common.{length, map, take, drop, replicate, refl, sym, ap, ◌∙◌, arith}
use Rattle.std.proofs.Common.{length-append, length-drop, get_or, slice_get, option_map, Option}
use Rattle.std.proofs.Common.{Some}
use Rattle.std.proofs.lemmas.List.{take-append-le, drop-append-le, length-take-le, length-replicate}
use Rattle.std.specs.List.{range_with_len}
use Rattle.gltf_items.specs.Reading.{ReadsFront}
use Rattle.gltf_buffers.specs.Padding.{padded}
use Rattle.gltf_trim.specs.Trimmed.{rest}
use Rattle.gltf_trimmed.specs.Laws.{cut, cut_all}
use Rattle.gltf_trimmed.proofs.Reached.{length_at}

-- ---- lists of bytes

pub there_at : (bs : List (List ℕ)) (i : ℕ) → i < length bs → slice_get bs i ≡ Some (get_or bs i [])
there_at [] i h = absurd (omega arith)
there_at (x ∷ bs) zero h = refl
there_at (x ∷ bs) (suc i) h = there_at bs i (omega arith)

pub cut_at : (ls : List (Option ℕ)) (bs : List (List ℕ)) (i : ℕ)
    → slice_get (cut_all ls bs) i ≡ option_map (cut (length_at ls i)) (slice_get bs i)
cut_at ls [] i = refl
cut_at [] (x ∷ bs) zero = refl
cut_at [] (x ∷ bs) (suc i) = cut_at [] bs i
cut_at (l ∷ ls) (x ∷ bs) zero = refl
cut_at (l ∷ ls) (x ∷ bs) (suc i) = cut_at ls bs i

pub cut_or : (ls : List (Option ℕ)) (bs : List (List ℕ)) (i : ℕ) → i < length bs
    → get_or (cut_all ls bs) i [] ≡ cut (length_at ls i) (get_or bs i [])
cut_or ls [] i h = absurd (omega arith)
cut_or [] (x ∷ bs) zero h = refl
cut_or [] (x ∷ bs) (suc i) h = cut_or [] bs i (omega arith)
cut_or (l ∷ ls) (x ∷ bs) zero h = refl
cut_or (l ∷ ls) (x ∷ bs) (suc i) h = cut_or ls bs i (omega arith)

pub as_many_cut : (ls : List (Option ℕ)) (bs : List (List ℕ))
    → length (cut_all ls bs) ≡ length bs
as_many_cut ls [] = refl
as_many_cut ls (x ∷ bs) = ap suc (as_many_cut (rest ls) bs)

-- ---- zeros behind

abbrev pub zeros : ℕ → List ℕ → List ℕ
zeros n bytes = replicate ((4 - length (take n bytes) % 4) % 4) 0

pub padded_is : (n : ℕ) (bytes : List ℕ)
    → padded (take n bytes) ≡ take n bytes ++ zeros n bytes
unfolding padded
padded_is n bytes = refl

pub padded_fours : (bytes : List ℕ) → length (padded bytes) % 4 ≡ 0
unfolding padded
padded_fours bytes =
    let long = length-append bytes (replicate ((4 - length bytes % 4) % 4) 0) in
    let more = length-replicate {A = ℕ} ((4 - length bytes % 4) % 4) 0 in
    omega (arith, long, more)

pub padded_long : (n : ℕ) (bytes : List ℕ) → n ≤ length bytes → n ≤ length (padded (take n bytes))
unfolding padded
padded_long n bytes h =
    let long = length-append (take n bytes) (zeros n bytes) in
    let front = length-take-le n bytes h in
    omega (arith, long, front)

-- ---- values

front_alone : {X : Type 0} (n : ℕ) (value : List ℕ → X) → ReadsFront n value
    → (bytes more : List ℕ) → n ≤ length bytes → value (bytes ++ more) ≡ value bytes
front_alone n value front bytes more h =
    let long = length-append bytes more in
    sym (front (bytes ++ more) (omega arith))
    ∙ ap value (take-append-le n bytes more h)
    ∙ front bytes h

-- from place a of the bytes on, so far from their end that the value lies in them
pub value_in_front : {X : Type 0} (n : ℕ) (value : List ℕ → X) → ReadsFront n value
    → (bytes more : List ℕ) (a : ℕ) → a + n ≤ length bytes
    → value (drop a (bytes ++ more)) ≡ value (drop a bytes)
value_in_front n value reads bytes more a h =
    let left = length-drop a bytes in
    ap value (drop-append-le a bytes more (omega arith))
    ∙ front_alone n value reads (drop a bytes) more (omega arith)

-- two functions that agree below a number have the same list
pub same_below : {X : Type 0} (f g : ℕ → X) (start n : ℕ)
    → ((i : ℕ) → i < start + n → f i ≡ g i)
    → map f (range_with_len start n) ≡ map g (range_with_len start n)
same_below f g start zero same = refl
same_below f g start (suc n) same =
    let later = same_below f g (start + 1) n (λ i h. same i (omega arith)) in
    let here : f start ≡ g start = same start (omega arith) in
    ap (λ x. x ∷ map f (range_with_len (start + 1) n)) here ∙ ap (λ xs. g start ∷ xs) later
