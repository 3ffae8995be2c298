-- In a table in which each leads to itself or to one of less rank, 2 ^ 64 steps are enough.
use Rattle.std.proofs.Common.{◌≡◌, ◌<◌, ◌≤◌, ◌+◌, ℕ, zero, suc, Bool, true, false, ◌⊎◌, inl, inr}
use Rattle.std.proofs.Common.{refl, sym, ◌∙◌, ap, arith, List, [], ◌∷◌, length, get_or, map}
use Rattle.std.specs.Prelude.{nat_eq, nat_lt, if◌then◌else◌, ◌&&◌}
use Rattle.std.proofs.lemmas.Bool.{eqb-true, ltb-true, ltb-false}
use Rattle.std.proofs.lemmas.List.{get_or-map, get_or_past, length-map, same_lists, get_or_default}
use Rattle.gltf_inspect_nodes.specs.Roots.{led, are_fixed, twice, times_16, times_65536}
use Rattle.gltf_inspect_nodes.specs.Orders.{ends_by}

-- ---- twice as many steps

pub led_past : (t : List ℕ) (v : ℕ) → length t ≤ v → led t v ≡ v
led_past t v h = get_or_past t v v h

map_by : (t : List ℕ) (v : ℕ) (b : Bool) → nat_lt v (length t) ≡ b
    → led (map (led t) t) v ≡ led t (led t v)
map_by t v true e = get_or-map (led t) t v v v (ltb-true v (length t) e)
map_by t v false e =
    let past : length t ≤ v = ltb-false v (length t) e in
    let long : length (map (led t) t) ≤ v = rw (length-map t (led t)) past in
    led_past (map (led t) t) v long
    ∙ sym (ap (λ x. led t x) (led_past t v past) ∙ led_past t v past)

fixed_here : (t : List ℕ) (x : ℕ) (rest b : Bool) → nat_eq (led t x) x ≡ b → (b && rest) ≡ true
    → (led t x ≡ x) × (rest ≡ true)
fixed_here t x rest true e h = (eqb-true (led t x) x e, h)
fixed_here t x rest false e h = cc

fixed_at : (t ks : List ℕ) (k d : ℕ) → are_fixed t ks ≡ true → k < length ks
    → led t (get_or ks k d) ≡ get_or ks k d
fixed_at t [] k d h below = let no : k < 0 = below in omega arith
fixed_at t (x ∷ xs) zero d h below =
    (fixed_here t x (are_fixed t xs) (nat_eq (led t x) x) refl h).0
fixed_at t (x ∷ xs) (suc k) d h below =
    fixed_at t xs k d (fixed_here t x (are_fixed t xs) (nat_eq (led t x) x) refl h).1
    (let less : k < length xs = omega arith in less)

once_by : (t : List ℕ) (v : ℕ) (b : Bool) → are_fixed t t ≡ true → nat_lt v (length t) ≡ b
    → led t (led t v) ≡ led t v
once_by t v true h e = fixed_at t t v v h (ltb-true v (length t) e)
once_by t v false h e = ap (λ x. led t x) (led_past t v (ltb-false v (length t) e))

twice_by : (t : List ℕ) (v : ℕ) (b : Bool) → are_fixed t t ≡ b
    → led (if b then t else map (led t) t) v ≡ led t (led t v)
twice_by t v true h = sym (once_by t v (nat_lt v (length t)) h refl)
twice_by t v false h = map_by t v (nat_lt v (length t)) refl

pub led-twice : (t : List ℕ) (v : ℕ) → led (twice t) v ≡ led t (led t v)
led-twice t v = twice_by t v (are_fixed t t) refl

long_by : (t : List ℕ) (b : Bool) → length (if b then t else map (led t) t) ≡ length t
long_by t true = refl
long_by t false = length-map t (led t)

pub length-twice : (t : List ℕ) → length (twice t) ≡ length t
length-twice t = long_by t (are_fixed t t)

-- ---- steps that fall

-- each leads to itself, or to one of less rank
abbrev pub IsRanked : (ℕ → ℕ) → List ℕ → Type 0
IsRanked r p = (v : ℕ) → (led p v ≡ v) ⊎ (r (led p v) < r v)

-- t leads each to where p leads nowhere else, or falls so far
pub record Falls (r : ℕ → ℕ) (p : List ℕ) (m : ℕ) (t : List ℕ) : Type 0 where
  pub long : length t ≡ length p
  pub still : (v : ℕ) → led p v ≡ v → led t v ≡ v
  pub far : (v : ℕ) → (led p (led t v) ≡ led t v) ⊎ (r (led t v) + m ≤ r v)

first_far : (r : ℕ → ℕ) (p : List ℕ) (v : ℕ) → (led p v ≡ v) ⊎ (r (led p v) < r v)
    → (led p (led p v) ≡ led p v) ⊎ (r (led p v) + 1 ≤ r v)
first_far r p v (inl e) = inl (ap (λ x. led p x) e)
first_far r p v (inr less) = inr (let l : r (led p v) + 1 ≤ r v = omega arith in l)

pub falls_first : (r : ℕ → ℕ) (p : List ℕ) → IsRanked r p → Falls r p 1 p
falls_first r p ranked = record {
  long = refl;
  still = λ v e. e;
  far = λ v. first_far r p v (ranked v);
}

twice_far : (r : ℕ → ℕ) (p : List ℕ) (m : ℕ) (t : List ℕ) (v : ℕ) → Falls r p m t
    → (led p (led t v) ≡ led t v) ⊎ (r (led t v) + m ≤ r v)
    → (led p (led t (led t v)) ≡ led t (led t v)) ⊎ (r (led t (led t v)) + m ≤ r (led t v))
    → (led p (led t (led t v)) ≡ led t (led t v)) ⊎ (r (led t (led t v)) + (m + m) ≤ r v)
twice_far r p m t v h (inl e) other =
    let same : led t (led t v) ≡ led t v = h.still (led t v) e in
    inl (ap (λ x. led p x) same ∙ e ∙ sym same)
twice_far r p m t v h (inr less) (inl e) = inl e
twice_far r p m t v h (inr less) (inr more) =
    inr (let l : r (led t (led t v)) + (m + m) ≤ r v = omega arith in l)

pub falls_twice : (r : ℕ → ℕ) (p : List ℕ) (m : ℕ) (t : List ℕ) → Falls r p m t
    → Falls r p (m + m) (twice t)
falls_twice r p m t h = record {
  long = length-twice t ∙ h.long;
  still = λ v e. led-twice t v ∙ ap (λ x. led t x) (h.still v e) ∙ h.still v e;
  far = λ v.
      let e = led-twice t v in
      rw (led-twice t v) (twice_far r p m t v h (h.far v) (h.far (led t v)));
}

-- where so many steps are more than the ranks, all lead to those that lead nowhere else
pub end_by : (r : ℕ → ℕ) (p : List ℕ) (m : ℕ) (t : List ℕ) (v : ℕ) → Falls r p m t → r v < m
    → (led p (led t v) ≡ led t v) ⊎ (r (led t v) + m ≤ r v) → led p (led t v) ≡ led t v
end_by r p m t v h few (inl e) = e
end_by r p m t v h few (inr more) = absurd (omega arith)

pub ends-fixed : (r : ℕ → ℕ) (p : List ℕ) (m : ℕ) (t : List ℕ) (v : ℕ) → Falls r p m t → r v < m
    → led p (led t v) ≡ led t v
ends-fixed r p m t v h few = end_by r p m t v h few (h.far v)

-- ---- the ends

-- a table that leads each to where its parent is led, and leads those nowhere that have none
pub record Closes (p e : List ℕ) : Type 0 where
  pub long : length e ≡ length p
  pub along : (v : ℕ) → led e (led p v) ≡ led e v
  pub still : (v : ℕ) → led p v ≡ v → led e v ≡ v

-- so many steps fall, and such a table goes on to lead where it did
record Keeps (r : ℕ → ℕ) (p e : List ℕ) (m : ℕ) (t : List ℕ) : Type 0 where
  falls : Falls r p m t
  along : (v : ℕ) → led e (led t v) ≡ led e v

keeps_twice : (r : ℕ → ℕ) (p e : List ℕ) (m : ℕ) (t : List ℕ) → Keeps r p e m t
    → Keeps r p e (m + m) (twice t)
keeps_twice r p e m t h = record {
  falls = falls_twice r p m t h.falls;
  along = λ v. ap (λ x. led e x) (led-twice t v) ∙ h.along (led t v) ∙ h.along v;
}

abbrev Doubles : (ℕ → ℕ) → List ℕ → List ℕ → (ℕ → ℕ) → (List ℕ → List ℕ) → Type 0
Doubles r p e d g = (m : ℕ) (t : List ℕ) → Keeps r p e m t → Keeps r p e (d m) (g t)

four : (r : ℕ → ℕ) (p e : List ℕ) (d : ℕ → ℕ) (g : List ℕ → List ℕ) → Doubles r p e d g
    → Doubles r p e (λ m. d (d (d (d m)))) (λ t. g (g (g (g t))))
four r p e d g h m t s =
    h (d (d (d m))) (g (g (g t))) (h (d (d m)) (g (g t)) (h (d m) (g t) (h m t s)))

abbrev two : ℕ → ℕ
two m = m + m

abbrev sixteen : ℕ → ℕ
sixteen m = two (two (two (two m)))

abbrev many : ℕ → ℕ
many m = sixteen (sixteen (sixteen (sixteen m)))

keeps_16 : (r : ℕ → ℕ) (p e : List ℕ) → Doubles r p e sixteen times_16
keeps_16 r p e = four r p e two twice (λ m t h. keeps_twice r p e m t h)

keeps_65536 : (r : ℕ → ℕ) (p e : List ℕ) → Doubles r p e many times_65536
keeps_65536 r p e = four r p e sixteen times_16 (keeps_16 r p e)

keeps_all : (r : ℕ → ℕ) (p e : List ℕ) → IsRanked r p → Closes p e
    → Keeps r p e 18446744073709551616 (ends_by p)
unfolding ends_by
keeps_all r p e ranked closes =
    four r p e many times_65536 (keeps_65536 r p e) 1 p
    (record { falls = falls_first r p ranked; along = closes.along })

same_end : (r : ℕ → ℕ) (p e t : List ℕ) (m v : ℕ) → Closes p e → Keeps r p e m t → r v < m
    → led e v ≡ led t v
same_end r p e t m v closes h few =
    sym (h.along v) ∙ closes.still (led t v) (ends-fixed r p m t v h.falls few)

-- such a table has the ends
pub ends-are : (r : ℕ → ℕ) (p e : List ℕ) → IsRanked r p → Closes p e
    → ((v : ℕ) → v < length p → r v < 18446744073709551616) → e ≡ ends_by p
ends-are r p e ranked closes few =
    let h = keeps_all r p e ranked closes in
    same_lists e (ends_by p) (closes.long ∙ sym h.falls.long) (λ k d below.
    let in_e : k < length e = below in
    let long = closes.long in
    let long_t = h.falls.long in
    let in_p : k < length p = omega arith in
    let in_t : k < length (ends_by p) = omega arith in
    get_or_default e k d k in_e
    ∙ same_end r p e (ends_by p) 18446744073709551616 k closes h (few k in_p)
    ∙ sym (get_or_default (ends_by p) k d k in_t))
