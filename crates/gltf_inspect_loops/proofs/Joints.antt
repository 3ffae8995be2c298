-- Joints that lead to one node, or to several, and joints that a test rejects.
use Rattle.std.proofs.Common.{◌≡◌, ◌≢◌, ◌<◌, ℕ, Bool, true, false, Option, Some, None, refl, sym}
use Rattle.std.proofs.Common.{◌∙◌, ap, List, [], ◌∷◌, length}
use Rattle.std.specs.Prelude.{nat_eq, nat_lt, ◌&&◌, ◌||◌, not, if◌then◌else◌}
use Rattle.std.specs.List.{list_any}
use Rattle.std.proofs.lemmas.Bool.{eqb-true, eq-eqb, ltb-true, lt-ltb, false_from_ne_true}
use Rattle.gltf_inspect_nodes.specs.Roots.{led, first_end, lead_to_first, lead_together}
use Rattle.gltf_inspect_trees.specs.Skeletons.{all_below}

-- one of these that is a node, of so many, and of which this holds
pub record HasJoint (P : ℕ → Type 0) (count : ℕ) (joints : List ℕ) : Type 0 where
  pub joint : ℕ
  pub there : list_any (nat_eq joint) joints ≡ true
  pub is_node : joint < count
  pub holds : P joint

pub or_true : (b : Bool) → (b || true) ≡ true
or_true true = refl
or_true false = refl

pub first_there : (j : ℕ) (js : List ℕ) → list_any (nat_eq j) (j ∷ js) ≡ true
first_there j js = ap (λ b. b || list_any (nat_eq j) js) (eq-eqb j j refl)

pub later_there : (x j : ℕ) (js : List ℕ) → list_any (nat_eq x) js ≡ true
    → list_any (nat_eq x) (j ∷ js) ≡ true
later_there x j js h = ap (λ b. nat_eq x j || b) h ∙ or_true (nat_eq x j)

later : (P : ℕ → Type 0) (count j : ℕ) (js : List ℕ) → HasJoint P count js
    → HasJoint P count (j ∷ js)
later P count j js h = record {
  joint = h.joint;
  there = later_there h.joint j js h.there;
  is_node = h.is_node;
  holds = h.holds;
}

-- ---- the first

abbrev pub Leads : List ℕ → ℕ → ℕ → Type 0
Leads ends end j = led ends j ≡ end

first_by : (ends : List ℕ) (j : ℕ) (js : List ℕ) (end : ℕ) (b : Bool) → nat_lt j (length ends) ≡ b
    → (first_end ends js ≡ Some end → HasJoint (Leads ends end) (length ends) js)
    → (if b then Some (led ends j) else first_end ends js) ≡ Some end
    → HasJoint (Leads ends end) (length ends) (j ∷ js)
first_by ends j js end true e rest h = record {
  joint = j;
  there = first_there j js;
  is_node = ltb-true j (length ends) e;
  holds = cc;
}
first_by ends j js end false e rest h = later (Leads ends end) (length ends) j js (rest h)

first_leads : (ends js : List ℕ) (end : ℕ) → first_end ends js ≡ Some end
    → HasJoint (Leads ends end) (length ends) js
first_leads ends [] end h = cc
first_leads ends (j ∷ js) end h =
    first_by ends j js end (nat_lt j (length ends)) refl (λ rest. first_leads ends js end rest) h

none_by : (ends : List ℕ) (j : ℕ) (js : List ℕ) (x : ℕ) (b c : Bool)
    → nat_lt j (length ends) ≡ b → nat_eq x j ≡ c → x < length ends
    → (if b then Some (led ends j) else first_end ends js) ≡ None
    → (first_end ends js ≡ None → list_any (nat_eq x) js ≡ true → ⊥)
    → (c || list_any (nat_eq x) js) ≡ true → ⊥
none_by ends j js x true c e f below h rest there = cc
none_by ends j js x false true e f below h rest there =
    let same : x ≡ j = eqb-true x j f in
    let no : true ≡ false
    = sym (lt-ltb x (length ends) below) ∙ ap (λ k. nat_lt k (length ends)) same ∙ e in
    cc
none_by ends j js x false false e f below h rest there = rest h there

none_there : (ends js : List ℕ) (x : ℕ) → x < length ends → first_end ends js ≡ None
    → list_any (nat_eq x) js ≡ true → ⊥
none_there ends [] x below h there = cc
none_there ends (j ∷ js) x below h there =
    none_by ends j js x (nat_lt j (length ends)) (nat_eq x j) refl refl below h
    (λ rest more. none_there ends js x below rest more) there

-- ---- all, by any test

abbrev pub Rejects : (ℕ → Bool) → ℕ → Type 0
Rejects test j = test j ≡ false

not_all_by : (test : ℕ → Bool) (count j : ℕ) (js : List ℕ) (b c : Bool) → nat_lt j count ≡ b
    → test j ≡ c → (all_below test count js ≡ false → HasJoint (Rejects test) count js)
    → ((not b || c) && all_below test count js) ≡ false
    → HasJoint (Rejects test) count (j ∷ js)
not_all_by test count j js true false e f rest h = record {
  joint = j;
  there = first_there j js;
  is_node = ltb-true j count e;
  holds = f;
}
not_all_by test count j js true true e f rest h = later (Rejects test) count j js (rest h)
not_all_by test count j js false c e f rest h = later (Rejects test) count j js (rest h)

pub not_all : (test : ℕ → Bool) (count : ℕ) (js : List ℕ) → all_below test count js ≡ false
    → HasJoint (Rejects test) count js
not_all test count [] h = cc
not_all test count (j ∷ js) h =
    not_all_by test count j js (nat_lt j count) (test j) refl refl
    (λ rest. not_all test count js rest) h

and_false : (b : Bool) → (b && false) ≡ false
and_false true = refl
and_false false = refl

all_not_by : (test : ℕ → Bool) (count j : ℕ) (js : List ℕ) (x : ℕ) (b : Bool) → nat_eq x j ≡ b
    → x < count → test x ≡ false
    → (list_any (nat_eq x) js ≡ true → all_below test count js ≡ false)
    → (b || list_any (nat_eq x) js) ≡ true → all_below test count (j ∷ js) ≡ false
all_not_by test count j js x true e is_node h rest there =
    ap (λ k. (not (nat_lt k count) || test k) && all_below test count js) (sym (eqb-true x j e))
    ∙ ap (λ b. (not b || test x) && all_below test count js) (lt-ltb x count is_node)
    ∙ ap (λ b. b && all_below test count js) h
all_not_by test count j js x false e is_node h rest there =
    ap (λ b. (not (nat_lt j count) || test j) && b) (rest there)
    ∙ and_false (not (nat_lt j count) || test j)

pub all_not : (test : ℕ → Bool) (count : ℕ) (js : List ℕ) (x : ℕ) → x < count → test x ≡ false
    → list_any (nat_eq x) js ≡ true → all_below test count js ≡ false
all_not test count [] x is_node h there = cc
all_not test count (j ∷ js) x is_node h there =
    all_not_by test count j js x (nat_eq x j) refl is_node h
    (λ rest. all_not test count js x is_node h rest) there

-- ---- all to one end: such a test too

abbrev pub is_led : List ℕ → ℕ → ℕ → Bool
is_led ends end j = nat_eq (led ends j) end

pub record AreTwo (ends joints : List ℕ) : Type 0 where
  pub end : ℕ
  pub one : HasJoint (Leads ends end) (length ends) joints
  pub other : HasJoint (Rejects (is_led ends end)) (length ends) joints

two_by : (ends js : List ℕ) (o : Option ℕ) → first_end ends js ≡ o
    → lead_to_first ends js o ≡ false → AreTwo ends js
two_by ends js None e h = cc
two_by ends js (Some end) e h = record {
  end = end;
  one = first_leads ends js end e;
  other = not_all (is_led ends end) (length ends) js h;
}

pub two_of : (ends js : List ℕ) → lead_together ends js ≡ false → AreTwo ends js
two_of ends js h = two_by ends js (first_end ends js) refl h

other_by : (ends js : List ℕ) (x y end : ℕ) (b : Bool) → is_led ends end x ≡ b
    → x < length ends → y < length ends → list_any (nat_eq x) js ≡ true
    → list_any (nat_eq y) js ≡ true → led ends x ≢ led ends y
    → lead_to_first ends js (Some end) ≡ false
other_by ends js x y end false e below other there also apart =
    all_not (is_led ends end) (length ends) js x below e there
other_by ends js x y end true e below other there also apart =
    all_not (is_led ends end) (length ends) js y other
    (false_from_ne_true (is_led ends end y) (λ f.
    apart (eqb-true (led ends x) end e ∙ sym (eqb-true (led ends y) end f)))) also

not_by : (ends js : List ℕ) (x y : ℕ) (o : Option ℕ) → x < length ends
    → y < length ends → list_any (nat_eq x) js ≡ true → list_any (nat_eq y) js ≡ true
    → led ends x ≢ led ends y → first_end ends js ≡ o → lead_to_first ends js o ≡ false
not_by ends js x y None below other there also apart e =
    absurd (none_there ends js x below e there)
not_by ends js x y (Some end) below other there also apart e =
    other_by ends js x y end (is_led ends end x) refl below other there also apart

pub not_together : (ends js : List ℕ) (x y : ℕ) → x < length ends → y < length ends
    → list_any (nat_eq x) js ≡ true → list_any (nat_eq y) js ≡ true
    → led ends x ≢ led ends y → lead_together ends js ≡ false
not_together ends js x y below other there also apart =
    not_by ends js x y (first_end ends js) below other there also apart refl
