-- The walk that marks the elements of a list marks those that some member names.
use Rattle.std.proofs.Common.{◌≡◌, ◌≢◌, ◌⊎◌, ℕ, zero, suc, ◌+◌, ◌<◌, Bool, true, false, cond}
use Rattle.std.proofs.Common.{if◌then◌else◌, List, [], ◌∷◌, map, length, get_or, refl, sym, ap, ◌∙◌}
use Rattle.std.proofs.Common.{inl, inr, arith}
use Rattle.std.specs.Prelude.{◌==◌, ◌&&◌, ◌||◌, not, slice_set}
use Rattle.std.specs.List.{filter, range_with_len}
use Rattle.std.proofs.Math.Bool.{or-true}
use Rattle.std.proofs.lemmas.Bool.{cases_eq, eq-eqb, ne_eqb}
use Rattle.std.proofs.lemmas.List.{length-set, get_or-set_same, get_or-set_other}
use Rattle.gltf_uses.specs.declared.kind.Kind.{Kind}
use Rattle.gltf_uses.specs.Kinds.{number}
use Rattle.gltf_uses.specs.References.{Marked, names, marks_after, is_empty}
use Rattle.gltf_uses.specs.Usage.{unset, unset_from}
use Rattle.gltf_uses.specs.Uses.{Held}
use Rattle.gltf_uses.proofs.Folds.{after_each}

-- no member names element i
abbrev pub is_unused : Kind → List Held → ℕ → Bool
is_unused kind hs i = is_empty (map (λ h. h.path) (filter (names kind i) hs))

abbrev step : Marked → Held → Marked
step m h = marks_after m h.path h.kind h.index

step_length : (m : Marked) (h : Held) → length (step m h).marks ≡ length m.marks
step_length m h =
    elim (number h.kind == number m.kind) as (λ b.
    length (if b then record m { marks = slice_set m.marks h.index true } else m).marks
    ≡ length m.marks)
    [ true ↦ length-set m.marks h.index true | false ↦ refl ]

step_kind : (m : Marked) (h : Held) → (step m h).kind ≡ m.kind
step_kind m h =
    elim (number h.kind == number m.kind) as (λ b.
    (if b then record m { marks = slice_set m.marks h.index true } else m).kind ≡ m.kind)
    [ true ↦ refl | false ↦ refl ]

or_false : (b : Bool) → b ≡ (b || false)
or_false true = refl
or_false false = refl

mark_by : (marks : List Bool) (i k : ℕ) → k < length marks → (i ≡ k) ⊎ (i ≢ k)
    → get_or (slice_set marks i true) k false ≡ (get_or marks k false || (i == k))
mark_by marks i k inside (inl same) =
    let before : Bool = get_or marks k false in
    rw (same, eq-eqb k k refl) (get_or-set_same marks k true false inside ∙ sym (or-true before))
mark_by marks i k inside (inr other) =
    rw (ne_eqb i k other) (get_or-set_other marks i k true false (λ e. other (sym e))
    ∙ or_false (get_or marks k false))

-- a mark is set once its element is named
step_mark : (m : Marked) (h : Held) (k : ℕ) → k < length m.marks
    → get_or (step m h).marks k false ≡ (get_or m.marks k false || names m.kind k h)
step_mark m h k inside =
    elim (number h.kind == number m.kind) as (λ b.
    get_or (if b then record m { marks = slice_set m.marks h.index true } else m).marks k false
    ≡ (get_or m.marks k false || (b && h.index == k))) [
      | true ↦ mark_by m.marks h.index k inside (cases_eq h.index k)
      | false ↦ or_false (get_or m.marks k false)
    ]

both_marks : (kind : Kind) (k : ℕ) (before : Bool) (h : Held) (hs : List Held)
    → ((before || names kind k h) || not (is_unused kind hs k))
    ≡ (before || not (is_unused kind (h ∷ hs) k))
both_marks kind k before h hs =
    let rest : List Held = filter (names kind k) hs in
    let last : Bool = not (is_empty (map (λ h. h.path) rest)) in
    elim (names kind k h) as (λ b.
    ((before || b) || not (is_empty (map (λ h. h.path) rest)))
    ≡ (before || not (is_empty (map (λ h. h.path) (cond b (h ∷ rest) rest))))) [
      | true ↦ ap (λ t. t || last) (or-true before) ∙ sym (or-true before)
      | false ↦ ap (λ t. t || last) (sym (or_false before))
    ]

pub length_each : (m : Marked) (hs : List Held)
    → length (after_each marks_after m hs).marks ≡ length m.marks
length_each m [] = refl
length_each m (h ∷ hs) = length_each (step m h) hs ∙ step_length m h

marks_each : (m : Marked) (hs : List Held) (k : ℕ) → k < length m.marks
    → get_or (after_each marks_after m hs).marks k false
    ≡ (get_or m.marks k false || not (is_unused m.kind hs k))
marks_each m [] k inside = or_false (get_or m.marks k false)
marks_each m (h ∷ hs) k inside =
    let within : k < length (step m h).marks = rw (step_length m h) inside in
    marks_each (step m h) hs k within
    ∙ ap (λ kind. get_or (step m h).marks k false || not (is_unused kind hs k)) (step_kind m h)
    ∙ ap (λ b. b || not (is_unused m.kind hs k)) (step_mark m h k inside)
    ∙ both_marks m.kind k (get_or m.marks k false) h hs

marks_are : (test : ℕ → Bool) (a : ℕ) (ms : List Bool)
    → ((k : ℕ) → k < length ms → get_or ms k false ≡ test (a + k))
    → ms ≡ map test (range_with_len a (length ms))
marks_are test a [] told = refl
marks_are test a (m ∷ ms) told =
    let later : ms ≡ map test (range_with_len (a + 1) (length ms)) =
    marks_are test (a + 1) ms (λ k inside.
    let shifted : a + suc k ≡ (a + 1) + k = omega arith in
    told (suc k) (omega arith) ∙ ap test shifted) in
    let first : m ≡ test a = told 0 (omega arith) ∙ ap test (omega arith) in
    ap (λ (b : Bool). b ∷ ms) first ∙ ap (λ (bs : List Bool). test a ∷ bs) later

-- from marks none of which is set, those are set whose elements some member names
pub used_are : (m : Marked) (hs : List Held) (n : ℕ) → length m.marks ≡ n
    → ((k : ℕ) → k < n → get_or m.marks k false ≡ false)
    → (after_each marks_after m hs).marks
    ≡ map (λ i. not (is_unused m.kind hs i)) (range_with_len 0 n)
used_are m hs n count none =
    let all : List Bool = (after_each marks_after m hs).marks in
    let same : length all ≡ n = length_each m hs ∙ count in
    marks_are (λ i. not (is_unused m.kind hs i)) 0 all (λ k inside.
    let within : k < n = rw same at inside in
    let at : k ≡ 0 + k = omega arith in
    marks_each m hs k (rw count within)
    ∙ ap (λ b. b || not (is_unused m.kind hs k)) (none k within)
    ∙ ap (λ (i : ℕ). not (is_unused m.kind hs i)) at)
    ∙ ap (λ (i : ℕ). map (λ k. not (is_unused m.kind hs k)) (range_with_len 0 i)) same

-- the marks that are not set are those of the elements that pass the test
pub unset_are : (test : ℕ → Bool) (a n : ℕ)
    → unset_from a (map (λ i. not (test i)) (range_with_len a n)) ≡ filter test (range_with_len a n)
unset_are test a zero = refl
unset_are test a (suc n) =
    let rest : List ℕ = filter test (range_with_len (a + 1) n) in
    let later : unset_from (a + 1) (map (λ i. not (test i)) (range_with_len (a + 1) n)) ≡ rest =
    unset_are test (a + 1) n in
    ap (λ (xs : List ℕ). if not (test a) then xs else a ∷ xs) later
    ∙ elim (test a) as (λ b. (if not b then rest else a ∷ rest) ≡ cond b (a ∷ rest) rest)
    [ true ↦ refl | false ↦ refl ]

-- and those are left without a mark whose elements no member names
pub unused_are : (m : Marked) (hs : List Held) (n : ℕ) → length m.marks ≡ n
    → ((k : ℕ) → k < n → get_or m.marks k false ≡ false)
    → unset (after_each marks_after m hs).marks
    ≡ filter (is_unused m.kind hs) (range_with_len 0 n)
unused_are m hs n count none =
    ap unset (used_are m hs n count none) ∙ unset_are (is_unused m.kind hs) 0 n
