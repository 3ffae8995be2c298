-- Where nodes lead to by 2 ^ 64 steps.
use Rattle.std.proofs.Common.{◌≡◌, ◌<◌, ◌≤◌, ◌+◌, ℕ, zero, suc, Bool, true, false}
use Rattle.std.proofs.Common.{refl, sym, ◌∙◌, ap, arith, List, [], ◌∷◌, length, get_or, map}
use Rattle.std.specs.Prelude.{nat_eq, nat_lt, if◌then◌else◌, ◌&&◌}
use Rattle.std.proofs.lemmas.Bool.{eqb-true, ltb-true, ltb-false}
use Rattle.std.proofs.lemmas.List.{get_or-map, get_or_past, length-map}
use Rattle.gltf_json_scene.specs.declared.scene.Node.{Node}
use Rattle.gltf_inspect_nodes.specs.Roots.{led, are_fixed, twice, times_16, times_65536, ends_of}
use Rattle.gltf_inspect_nodes.specs.Roots.{parents_of}
use Rattle.gltf_inspect_loops.proofs.Walks.{after, after_more}
use Rattle.gltf_inspect_loops.proofs.Tables.{length-parents}

led_past : (t : List ℕ) (v : ℕ) → length t ≤ v → led t v ≡ v
led_past t v h = get_or_past t v v h

led_map : (t : List ℕ) (v : ℕ) (b : Bool) → nat_lt v (length t) ≡ b
    → led (map (led t) t) v ≡ led t (led t v)
led_map t v true e = get_or-map (led t) t v v v (ltb-true v (length t) e)
led_map t v false e =
    let past : length t ≤ v = ltb-false v (length t) e in
    let long : length (map (led t) t) ≤ v = rw (length-map t (led t)) past in
    led_past (map (led t) t) v long
    ∙ sym (ap (λ x. led t x) (led_past t v past) ∙ led_past t v past)

fixed_here : (t : List ℕ) (x : ℕ) (rest b : Bool) → nat_eq (led t x) x ≡ b → (b && rest) ≡ true
    → (led t x ≡ x) × (rest ≡ true)
fixed_here t x rest true e h = (eqb-true (led t x) x e, h)
fixed_here t x rest false e h = cc

fixed_at : (t ks : List ℕ) (k d : ℕ) → are_fixed t ks ≡ true → k < length ks
    → led t (get_or ks k d) ≡ get_or ks k d
fixed_at t [] k d h below = let no : k < 0 = below in omega arith
fixed_at t (x ∷ xs) zero d h below =
    (fixed_here t x (are_fixed t xs) (nat_eq (led t x) x) refl h).0
fixed_at t (x ∷ xs) (suc k) d h below =
    fixed_at t xs k d (fixed_here t x (are_fixed t xs) (nat_eq (led t x) x) refl h).1
    (let less : k < length xs = omega arith in less)

once_by : (t : List ℕ) (v : ℕ) (b : Bool) → are_fixed t t ≡ true → nat_lt v (length t) ≡ b
    → led t (led t v) ≡ led t v
once_by t v true h e = fixed_at t t v v h (ltb-true v (length t) e)
once_by t v false h e = ap (λ x. led t x) (led_past t v (ltb-false v (length t) e))

-- a table of so many steps, of so many nodes
pub record AreSteps (f : ℕ → ℕ) (n m : ℕ) (t : List ℕ) : Type 0 where
  pub long : length t ≡ n
  pub each : (v : ℕ) → led t v ≡ after f m v

twice_by : (f : ℕ → ℕ) (n m : ℕ) (t : List ℕ) (b : Bool) → are_fixed t t ≡ b → AreSteps f n m t
    → AreSteps f n (m + m) (if b then t else map (led t) t)
twice_by f n m t true e h = record {
  long = h.long;
  each = λ v.
      sym (once_by t v (nat_lt v (length t)) e refl)
      ∙ h.each (led t v)
      ∙ ap (λ x. after f m x) (h.each v)
      ∙ sym (after_more f m m v);
}
twice_by f n m t false e h = record {
  long = length-map t (led t) ∙ h.long;
  each = λ v.
      led_map t v (nat_lt v (length t)) refl
      ∙ h.each (led t v)
      ∙ ap (λ x. after f m x) (h.each v)
      ∙ sym (after_more f m m v);
}

pub twice_steps : (f : ℕ → ℕ) (n m : ℕ) (t : List ℕ) → AreSteps f n m t
    → AreSteps f n (m + m) (twice t)
twice_steps f n m t h = twice_by f n m t (are_fixed t t) refl h

-- g takes a table of so many steps to one of d times as many, twice over
abbrev pub Doubles : (ℕ → ℕ) → ℕ → (ℕ → ℕ) → (List ℕ → List ℕ) → Type 0
Doubles f n d g = (m : ℕ) (t : List ℕ) → AreSteps f n m t → AreSteps f n (d m) (g t)

four : (f : ℕ → ℕ) (n : ℕ) (d : ℕ → ℕ) (g : List ℕ → List ℕ) → Doubles f n d g
    → Doubles f n (λ m. d (d (d (d m)))) (λ t. g (g (g (g t))))
four f n d g h m t s =
    h (d (d (d m))) (g (g (g t))) (h (d (d m)) (g (g t)) (h (d m) (g t) (h m t s)))

abbrev pub two : ℕ → ℕ
two m = m + m

abbrev pub sixteen : ℕ → ℕ
sixteen m = two (two (two (two m)))

abbrev pub many : ℕ → ℕ
many m = sixteen (sixteen (sixteen (sixteen m)))

steps_16 : (f : ℕ → ℕ) (n : ℕ) → Doubles f n sixteen times_16
steps_16 f n = four f n two twice (λ m t h. twice_steps f n m t h)

steps_65536 : (f : ℕ → ℕ) (n : ℕ) → Doubles f n many times_65536
steps_65536 f n = four f n sixteen times_16 (steps_16 f n)

pub first_steps : (ns : List Node)
    → AreSteps (led (parents_of ns)) (length ns) 1 (parents_of ns)
unfolding after
first_steps ns = record { long = length-parents ns; each = λ v. refl }

pub ends_steps : (ns : List Node)
    → AreSteps (led (parents_of ns)) (length ns) 18446744073709551616 (ends_of ns)
unfolding ends_of
ends_steps ns =
    four (led (parents_of ns)) (length ns) many times_65536
    (steps_65536 (led (parents_of ns)) (length ns)) 1 (parents_of ns) (first_steps ns)
