-- The steps that are counted lead to a node that has no parent.
use Rattle.std.proofs.Common.{◌≡◌, ◌≢◌, ◌<◌, ◌≤◌, ◌+◌, ◌-◌, ℕ, zero, suc, Bool, true, false, ◌&&◌}
use Rattle.std.proofs.Common.{refl, sym, ◌∙◌, ap, subst, arith, if◌then◌else◌, List, [], ◌∷◌}
use Rattle.std.proofs.Common.{get_or, length, map}
use Rattle.std.specs.Prelude.{nat_eq, nat_lt}
use Rattle.std.proofs.lemmas.Bool.{eqb-true, eqb-false, eq-eqb, ltb-true, ltb-false}
use Rattle.std.proofs.lemmas.List.{get_or-map, get_or_past, length-map}
use Rattle.gltf_inspect_nodes.specs.Roots.{led, are_fixed}
use Rattle.gltf_inspect_trees.specs.Climbs.{Climb, own_depths, deeper, first_climb, doubled}
use Rattle.gltf_inspect_trees.specs.Climbs.{once, raised}

-- whether a step leads to another node, as a number
abbrev pub one : (ℕ → ℕ) → ℕ → ℕ
one f v = if nat_eq (f v) v then 0 else 1

by_eq : (a b : ℕ) (c : Bool) → nat_eq a b ≡ c → a ≡ b → ◌≡◌ {A = ℕ} (if c then 0 else 1) 0
by_eq a b true e same = refl
by_eq a b false e same = absurd (eqb-false a b e same)

by_other : (a b : ℕ) (c : Bool) → nat_eq a b ≡ c → a ≢ b → ◌≡◌ {A = ℕ} (if c then 0 else 1) 1
by_other a b true e other = absurd (other (eqb-true a b e))
by_other a b false e other = refl

pub one-still : (f : ℕ → ℕ) (v : ℕ) → f v ≡ v → one f v ≡ 0
one-still f v h = by_eq (f v) v (nat_eq (f v) v) refl h

pub one-moved : (f : ℕ → ℕ) (v : ℕ) → f v ≢ v → one f v ≡ 1
one-moved f v h = by_other (f v) v (nat_eq (f v) v) refl h

at_most : (c : Bool) → (if c then 0 else 1) ≤ 1
at_most true = omega arith
at_most false = omega arith

-- ---- lists by their indices

own_at : (i : ℕ) (ps : List ℕ) (k : ℕ) → k < length ps
    → get_or (own_depths i ps) k 0 ≡ (if nat_eq (get_or ps k 0) (i + k) then 0 else 1)
own_at i [] k h = let no : k < 0 = h in omega arith
own_at i (p ∷ ps) zero h =
    ap (λ x. if nat_eq p x then 0 else 1) (let e : i ≡ i + zero = omega arith in e)
own_at i (p ∷ ps) (suc k) h =
    own_at (i + 1) ps k (let s : k < length ps = omega arith in s)
    ∙ ap (λ x. if nat_eq (get_or ps k 0) x then 0 else 1)
    (let e : (i + 1) + k ≡ i + suc k = omega arith in e)

pub length-own : (i : ℕ) (ps : List ℕ) → length (own_depths i ps) ≡ length ps
length-own i [] = refl
length-own i (p ∷ ps) = ap (λ x. suc x) (length-own (i + 1) ps)

deeper_at : (ds : List ℕ) (i : ℕ) (ks : List ℕ) (k : ℕ) → k < length ks
    → get_or (deeper ds i ks) k 0 ≡ get_or ds (i + k) 0 + get_or ds (get_or ks k 0) 0
deeper_at ds i [] k h = let no : k < 0 = h in omega arith
deeper_at ds i (x ∷ xs) zero h =
    ap (λ y. get_or ds y 0 + get_or ds x 0) (let e : i ≡ i + zero = omega arith in e)
deeper_at ds i (x ∷ xs) (suc k) h =
    deeper_at ds (i + 1) xs k (let s : k < length xs = omega arith in s)
    ∙ ap (λ y. get_or ds y 0 + get_or ds (get_or xs k 0) 0)
    (let e : (i + 1) + k ≡ i + suc k = omega arith in e)

pub length-deeper : (ds : List ℕ) (i : ℕ) (ks : List ℕ) → length (deeper ds i ks) ≡ length ks
length-deeper ds i [] = refl
length-deeper ds i (x ∷ xs) = ap (λ x. suc x) (length-deeper ds (i + 1) xs)

other_default : (xs : List ℕ) (k d e : ℕ) → k < length xs → get_or xs k d ≡ get_or xs k e
other_default [] k d e h = let no : k < 0 = h in omega arith
other_default (x ∷ xs) zero d e h = refl
other_default (x ∷ xs) (suc k) d e h =
    other_default xs k d e (let s : k < length xs = omega arith in s)

-- ---- where tables lead

pub led_past : (t : List ℕ) (v : ℕ) → length t ≤ v → led t v ≡ v
led_past t v h = get_or_past t v v h

twice_by : (t : List ℕ) (v : ℕ) (b : Bool) → nat_lt v (length t) ≡ b
    → led (map (led t) t) v ≡ led t (led t v)
twice_by t v true e = get_or-map (led t) t v v v (ltb-true v (length t) e)
twice_by t v false e =
    let past : length t ≤ v = ltb-false v (length t) e in
    let long : length (map (led t) t) ≤ v = rw (length-map t (led t)) past in
    led_past (map (led t) t) v long
    ∙ sym (ap (λ x. led t x) (led_past t v past) ∙ led_past t v past)

pub led-twice : (t : List ℕ) (v : ℕ) → led (map (led t) t) v ≡ led t (led t v)
led-twice t v = twice_by t v (nat_lt v (length t)) refl

-- ---- the counts of a climb

pub record Counts (f : ℕ → ℕ) (n : ℕ) (t d : List ℕ) (most : ℕ) : Type 0 where
  pub long : length t ≡ n
  pub deep : length d ≡ n
  pub past : (v : ℕ) → n ≤ v → f v ≡ v
  pub along : (v : ℕ) → led t (f v) ≡ f (led t v)
  pub still : (v : ℕ) → f v ≡ v → led t v ≡ v
  pub none : (v : ℕ) → f v ≡ v → get_or d v 0 ≡ 0
  pub counted : (v : ℕ) → get_or d v 0 + one f (led t v) ≡ one f v + get_or d (f v) 0
  pub bound : (v : ℕ) → get_or d v 0 ≤ most

own_by : (ps : List ℕ) (v : ℕ) (b : Bool) → nat_lt v (length ps) ≡ b
    → get_or (own_depths 0 ps) v 0 ≡ one (led ps) v
own_by ps v true e =
    let below : v < length ps = ltb-true v (length ps) e in
    own_at 0 ps v below
    ∙ ap (λ x. if nat_eq x (0 + v) then 0 else 1) (other_default ps v 0 v below)
    ∙ ap (λ x. if nat_eq (led ps v) x then 0 else 1) (let same : 0 + v ≡ v = omega arith in same)
own_by ps v false e =
    let past : length ps ≤ v = ltb-false v (length ps) e in
    let long : length (own_depths 0 ps) ≤ v = rw (length-own 0 ps) past in
    get_or_past (own_depths 0 ps) v 0 long
    ∙ sym (one-still (led ps) v (led_past ps v past))

pub own : (ps : List ℕ) (v : ℕ) → get_or (own_depths 0 ps) v 0 ≡ one (led ps) v
own ps v = own_by ps v (nat_lt v (length ps)) refl

pub first_counts : (ps : List ℕ) → Counts (led ps) (length ps) ps (own_depths 0 ps) 1
first_counts ps = record {
  long = refl;
  deep = length-own 0 ps;
  past = λ v h. led_past ps v h;
  along = λ v. refl;
  still = λ v h. h;
  none = λ v h. own ps v ∙ one-still (led ps) v h;
  counted = λ v.
      let a = own ps v in
      let b = own ps (led ps v) in
      let goal : get_or (own_depths 0 ps) v 0 + one (led ps) (led ps v)
      ≡ one (led ps) v + get_or (own_depths 0 ps) (led ps v) 0 = rw (a, b) refl in
      goal;
  bound = λ v. rw (own ps v) (at_most (nat_eq (led ps v) v));
}

deeper_by : (f : ℕ → ℕ) (n : ℕ) (t d : List ℕ) (most v : ℕ) (b : Bool) → Counts f n t d most
    → nat_lt v n ≡ b
    → get_or (deeper d 0 t) v 0 ≡ get_or d v 0 + get_or d (led t v) 0
deeper_by f n t d most v true h e =
    let below : v < n = ltb-true v n e in
    let in_t : v < length t = rw h.long below in
    deeper_at d 0 t v in_t
    ∙ ap (λ x. get_or d x 0 + get_or d (get_or t v 0) 0)
    (let same : 0 + v ≡ v = omega arith in same)
    ∙ ap (λ x. get_or d v 0 + get_or d x 0) (other_default t v 0 v in_t)
deeper_by f n t d most v false h e =
    let past : n ≤ v = ltb-false v n e in
    let long : length (deeper d 0 t) ≤ v = rw (length-deeper d 0 t, h.long) past in
    let still : f v ≡ v = h.past v past in
    let none : get_or d v 0 ≡ 0 = h.none v still in
    let there : get_or d (led t v) 0 ≡ 0 = ap (λ x. get_or d x 0) (h.still v still) ∙ none in
    get_or_past (deeper d 0 t) v 0 long
    ∙ sym (let sum : get_or d v 0 + get_or d (led t v) 0 ≡ 0 = omega arith in sum)

pub deeper-is : (f : ℕ → ℕ) (n : ℕ) (t d : List ℕ) (most : ℕ) → Counts f n t d most → (v : ℕ)
    → get_or (deeper d 0 t) v 0 ≡ get_or d v 0 + get_or d (led t v) 0
deeper-is f n t d most h v = deeper_by f n t d most v (nat_lt v n) h refl

counted_sum : (a b c x y z w : ℕ) → a + b ≡ x + c → y + z ≡ b + w → (a + y) + z ≡ x + (c + w)
counted_sum a b c x y z w h k = omega arith

pub counts_more : (f : ℕ → ℕ) (n : ℕ) (t d : List ℕ) (most : ℕ) → Counts f n t d most
    → Counts f n (map (led t) t) (deeper d 0 t) (most + most)
counts_more f n t d most h = record {
  long = length-map t (led t) ∙ h.long;
  deep = length-deeper d 0 t ∙ h.long;
  past = h.past;
  along = λ v.
      led-twice t (f v)
      ∙ ap (λ x. led t x) (h.along v)
      ∙ h.along (led t v)
      ∙ ap (λ x. f x) (sym (led-twice t v));
  still = λ v s. led-twice t v ∙ ap (λ x. led t x) (h.still v s) ∙ h.still v s;
  none = λ v s.
      let here : get_or d v 0 ≡ 0 = h.none v s in
      let there : get_or d (led t v) 0 ≡ 0 = ap (λ x. get_or d x 0) (h.still v s) ∙ here in
      deeper-is f n t d most h v
      ∙ (let sum : get_or d v 0 + get_or d (led t v) 0 ≡ 0 = omega arith in sum);
  counted = λ v.
      let sums = counted_sum (get_or d v 0) (one f (led t v)) (get_or d (f v) 0) (one f v)
      (get_or d (led t v) 0) (one f (led t (led t v))) (get_or d (led t (f v)) 0)
      (h.counted v)
      (h.counted (led t v)
      ∙ ap (λ x. one f (led t v) + get_or d x 0) (sym (h.along v))) in
      ap (λ x. x + one f (led (map (led t) t) v)) (deeper-is f n t d most h v)
      ∙ ap (λ x. (get_or d v 0 + get_or d (led t v) 0) + one f x) (led-twice t v)
      ∙ sums
      ∙ ap (λ x. one f v + x) (sym (deeper-is f n t d most h (f v)));
  bound = λ v.
      let a = h.bound v in
      let b = h.bound (led t v) in
      rw (deeper-is f n t d most h v) (let sum : get_or d v 0 + get_or d (led t v) 0 ≤ most + most
      = omega arith in sum);
}

-- as many after so many doublings
abbrev pub two : ℕ → ℕ
two most = most + most

abbrev pub grown : ℕ → ℕ → ℕ
grown zero most = most
grown (suc n) most = two (grown n most)

weaker : (f : ℕ → ℕ) (n : ℕ) (t d : List ℕ) (most : ℕ) → Counts f n t d most
    → Counts f n t d (two most)
weaker f n t d most h = record {
  long = h.long;
  deep = h.deep;
  past = h.past;
  along = h.along;
  still = h.still;
  none = h.none;
  counted = h.counted;
  bound = λ v. let a = h.bound v in let b : get_or d v 0 ≤ most + most = omega arith in b;
}

once_by : (f : ℕ → ℕ) (n : ℕ) (c : Climb) (most : ℕ) (b : Bool) → Counts f n c.top c.depths most
    → Counts f n (if b then c else doubled c).top (if b then c else doubled c).depths (two most)
once_by f n c most true h = weaker f n c.top c.depths most h
once_by f n c most false h = counts_more f n c.top c.depths most h

once_counts : (f : ℕ → ℕ) (n : ℕ) (c : Climb) (most : ℕ) → Counts f n c.top c.depths most
    → Counts f n (once c).top (once c).depths (two most)
unfolding once
once_counts f n c most h = once_by f n c most (are_fixed c.top c.top) h

pub counts_up : (f : ℕ → ℕ) (n m : ℕ) (c : Climb) (most : ℕ) → Counts f n c.top c.depths most
    → Counts f n (raised m c).top (raised m c).depths (grown m most)
unfolding raised
counts_up f n zero c most h = h
counts_up f n (suc m) c most h =
    once_counts f n (raised m c) (grown m most) (counts_up f n m c most h)
