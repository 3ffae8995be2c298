-- Lists in terms of a position.
use Rattle.std.specs.Prelude.{◌≡◌, ℕ, zero, suc, ◌+◌, ◌-◌, ◌<◌, ◌≤◌, Option, MatchOption}

-- what items come from, the number of the next item, and the number after the last one
pub record Position (S : Type 0) : Type 0 where
  pub source : S
  pub next : ℕ
  pub end : ℕ

-- how many items are left
abbrev pub left : {S : Type 0} → Position S → ℕ
left p = p.end - p.next

-- all items are left: those of the numbers below a count
pub record IsWhole {S : Type 0} (Is : S → Type 0) (count : ℕ) (p : Position S) : Type 0 where
  pub source : Is p.source
  pub next : p.next ≡ 0
  pub end : p.end ≡ count

-- passes over n items, gives the one after them and leaves those after that; or gives none where
-- so many are not left, and leaves none
pub record Nth {S A : Type 0} (Gives : S → ℕ → A → Type 0) (old : Position S) (n : ℕ)
    (given : Option A) (new : Position S) : Type 0 where
  pub source : new.source ≡ old.source
  pub end : new.end ≡ old.end
  pub item : MatchOption given
      ((old.end ≤ old.next + n) × (new.next ≡ old.end))
      (λ x. (old.next + n < old.end) × Gives old.source (old.next + n) x
      × (new.next ≡ old.next + n + 1))

-- gives the last item, where one is left
abbrev pub Last : {S A : Type 0} → (S → ℕ → A → Type 0) → Position S → Option A → Type 0
Last Gives p given =
    MatchOption given (p.end ≤ p.next) (λ x. (p.next < p.end) × Gives p.source (p.end - 1) x)

-- what n + 1 calls of `next` give last, and leave
abbrev pub ByNext : {S A : Type 0} → (S → ℕ → A → Type 0) → Position S → ℕ → Option A → Position S
    → Type 0
ByNext Gives old zero given new = Nth Gives old 0 given new
ByNext {S} {A} Gives old (suc n) given new =
    (first : Option A) × (between : Position S) × Nth Gives old 0 first between
    × ByNext Gives between n given new
