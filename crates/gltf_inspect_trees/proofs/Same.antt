-- Skeletons by tables.
use Rattle.std.proofs.Common.{◌≡◌, ◌<◌, ◌≤◌, ◌+◌, ◌-◌, ℕ, zero, suc, Bool, true, false, ◌&&◌, ◌||◌}
use Rattle.std.proofs.Common.{refl, sym, ◌∙◌, ap, subst, arith, if◌then◌else◌, List, [], ◌∷◌}
use Rattle.std.proofs.Common.{get_or, length, Option, Some, None}
use Rattle.std.specs.Prelude.{nat_eq, nat_lt, not, is_some}
use Rattle.std.proofs.lemmas.Bool.{eqb-true, eq-eqb, ltb-true, ltb-false}
use Rattle.gltf_json_record.specs.Place.{Place, numbered}
use Rattle.gltf_json_scene.specs.declared.scene.Node.{Node}
use Rattle.gltf_json_scene.specs.declared.skin.Skin.{Skin}
use Rattle.gltf_findings.specs.declared.code.Code.{Code}
use Rattle.gltf_findings.specs.Checks.{Checks, told_after, elements_checks, list_checks}
use Rattle.gltf_inspect_nodes.specs.Roots.{led, are_fixed, parents_of}
use Rattle.gltf_inspect_trees.specs.Climbs.{Climb, first_climb, raised, climbed, reaches}
use Rattle.gltf_inspect_trees.specs.Skeletons.{leads, all_below, fits_at, skeleton_checks}
use Rattle.gltf_inspect_trees.specs.Skeletons.{have_skeleton, is_below, node_checks}
use Rattle.gltf_inspect_trees.proofs.Raised.{raised-is}
use Rattle.gltf_inspect_trees.proofs.Steps.{after}
use Rattle.gltf_inspect_trees.proofs.Counted.{Counts, first_counts, counts_up, grown, led_past}
use Rattle.gltf_inspect_trees.proofs.Climbed.{top_after, levels_after, top_of, levels_of, IsOnce}
use Rattle.gltf_inspect_trees.proofs.Climbed.{climbed-is}
use Rattle.gltf_inspect_trees.proofs.Leading.{leads-from, leads-steps, Depths, depths-of, enough}

-- ---- all nodes lead to those without a parent

fixed_here : (t : List ℕ) (x : ℕ) (rest b : Bool) → nat_eq (led t x) x ≡ b → (b && rest) ≡ true
    → (led t x ≡ x) × (rest ≡ true)
fixed_here t x rest true e h = (eqb-true (led t x) x e, h)
fixed_here t x rest false e h = cc

fixed_at : (t ks : List ℕ) (k d : ℕ) → are_fixed t ks ≡ true → k < length ks
    → led t (get_or ks k d) ≡ get_or ks k d
fixed_at t [] k d h below = let no : k < 0 = below in omega arith
fixed_at t (x ∷ xs) zero d h below =
    (fixed_here t x (are_fixed t xs) (nat_eq (led t x) x) refl h).0
fixed_at t (x ∷ xs) (suc k) d h below =
    fixed_at t xs k d (fixed_here t x (are_fixed t xs) (nat_eq (led t x) x) refl h).1
    (let less : k < length xs = omega arith in less)

rooted_by : (t ks : List ℕ) (v : ℕ) (b : Bool) → are_fixed t ks ≡ true → length t ≡ length ks
    → nat_lt v (length ks) ≡ b → led t (led ks v) ≡ led ks v
rooted_by t ks v true h long e = fixed_at t ks v v h (ltb-true v (length ks) e)
rooted_by t ks v false h long e =
    let past : length ks ≤ v = ltb-false v (length ks) e in
    let far : length t ≤ v = omega arith in
    ap (λ x. led t x) (led_past ks v past) ∙ led_past t v far ∙ sym (led_past ks v past)

pub rooted : (t ks : List ℕ) → are_fixed t ks ≡ true → length t ≡ length ks → (v : ℕ)
    → led t (led ks v) ≡ led ks v
rooted t ks h long v = rooted_by t ks v (nat_lt v (length ks)) h long refl

-- ---- one climb

abbrev pub whole : List ℕ → Climb
whole parents = raised 64 (first_climb parents)

pub counted_of : (parents : List ℕ) → Counts (led parents) (length parents) (whole parents).top
    (whole parents).depths 18446744073709551616
counted_of parents = counts_up (led parents) (length parents) 64 (first_climb parents) 1
    (first_counts parents)

whole_top : (parents : List ℕ) → (whole parents).top ≡ top_after 64 parents
whole_top parents =
    ap (λ (c : Climb). c.top) (raised-is 64 (first_climb parents)) ∙ top_of 64 (first_climb parents)

whole_levels : (parents : List ℕ) → (whole parents).levels ≡ levels_after 64 parents
whole_levels parents =
    ap (λ (c : Climb). c.levels) (raised-is 64 (first_climb parents))
    ∙ levels_of 64 (first_climb parents)

steps_once : (parents : List ℕ) → are_fixed parents (whole parents).top ≡ true
    → IsOnce (top_after 64 parents)
steps_once parents h v =
    let all = counted_of parents in
    let root = rooted parents (whole parents).top h (sym all.long) v in
    subst (λ t. led t (led t v) ≡ led t v) (whole_top parents)
    (all.still (led (whole parents).top v) root)

climb-is : (parents : List ℕ) (d k : ℕ) → are_fixed parents (whole parents).top ≡ true
    → climbed (whole parents).levels (whole parents).top d k ≡ after (led parents) d k
climb-is parents d k h =
    ap (λ l. climbed l (whole parents).top d k) (whole_levels parents)
    ∙ ap (λ t. climbed (levels_after 64 parents) t d k) (whole_top parents)
    ∙ climbed-is 64 parents d k (steps_once parents h)

-- ---- the two tests

bool_same : (a b : Bool) → (a ≡ true → b ≡ true) → (b ≡ true → a ≡ true) → a ≡ b
bool_same true b to from = sym (to refl)
bool_same false true to from = from refl
bool_same false false to from = refl

reaches-is : (parents : List ℕ) (s k : ℕ) → are_fixed parents (whole parents).top ≡ true
    → reaches (whole parents) s k ≡ leads parents 18446744073709551616 s k
reaches-is parents s k h =
    let c = whole parents in
    let d = get_or (whole parents).depths k 0 - get_or (whole parents).depths s 0 in
    let all = counted_of parents in
    let depths = depths-of (led parents) (length parents) (whole parents).top
    (whole parents).depths 18446744073709551616 all
    (rooted parents (whole parents).top h (sym all.long)) in
    let at = climb-is parents (get_or (whole parents).depths k 0 - get_or
    (whole parents).depths s 0)
    k h in
    let deep : get_or (whole parents).depths k 0 ≤ 18446744073709551616 = all.bound k in
    bool_same (reaches (whole parents) s k) (leads parents 18446744073709551616 s k)
    (λ found.
    leads-from parents 18446744073709551616
    (get_or (whole parents).depths k 0 - get_or (whole parents).depths s 0) s k
    (let less : get_or (whole parents).depths k 0 - get_or (whole parents).depths s 0
    ≤ 18446744073709551616 = omega arith in less)
    (sym at ∙ eqb-true (climbed (whole parents).levels (whole parents).top
    (get_or (whole parents).depths k 0 - get_or (whole parents).depths s 0) k) s found))
    (λ found.
    let there = leads-steps parents 18446744073709551616 s k found in
    eq-eqb (climbed (whole parents).levels (whole parents).top
    (get_or (whole parents).depths k 0 - get_or (whole parents).depths s 0) k) s
    (at ∙ enough (led parents) (λ v. get_or (whole parents).depths v 0) there.0 s k depths
    there.1))

below_by : (parents : List ℕ) (s k : ℕ) (b : Bool) → are_fixed parents (whole parents).top ≡ b
    → (not b || reaches (whole parents) s k)
    ≡ (not b || leads parents 18446744073709551616 s k)
below_by parents s k true h = reaches-is parents s k h
below_by parents s k false h = refl

pub below_same : (parents : List ℕ) (s k : ℕ)
    → (not (are_fixed parents (whole parents).top) || reaches (whole parents) s k)
    ≡ (not (are_fixed parents (whole parents).top) || leads parents 18446744073709551616 s k)
below_same parents s k = below_by parents s k (are_fixed parents (whole parents).top) refl

-- ---- checks by such a test

all_same : (f g : ℕ → Bool) (count : ℕ) (js : List ℕ) → ((k : ℕ) → f k ≡ g k)
    → all_below f count js ≡ all_below g count js
all_same f g count [] same = refl
all_same f g count (j ∷ js) same = rw (same j, all_same f g count js same) refl

fit_same : (f g : ℕ → ℕ → Bool) (count : ℕ) (js : List ℕ) (s : Option ℕ)
    → ((i k : ℕ) → f i k ≡ g i k) → fits_at f count js s ≡ fits_at g count js s
fit_same f g count js None same = refl
fit_same f g count js (Some s) same = rw (all_same (f s) (g s) count js (same s)) refl

same_from : (f g : ℕ → ℕ → Bool) (count i : ℕ) (ss : List Skin) → ((a k : ℕ) → f a k ≡ g a k)
    → elements_checks (skeleton_checks f count) i ss
    ≡ elements_checks (skeleton_checks g count) i ss
same_from f g count i [] same = refl
same_from f g count i (s ∷ ss) same =
    rw (fit_same f g count s.joints.items s.skeleton same, same_from f g count (i + 1) ss same) refl

pub same_skeletons : (f g : ℕ → ℕ → Bool) (count : ℕ) (ss : List Skin)
    → ((a k : ℕ) → f a k ≡ g a k)
    → list_checks (skeleton_checks f count) ss ≡ list_checks (skeleton_checks g count) ss
same_skeletons f g count ss same = same_from f g count 0 ss same

-- what is told by the tables of these nodes
pub told_same : (ns : List Node) (below : ℕ → ℕ → Bool) (ss : List Skin)
    → ((s k : ℕ) → below s k ≡ is_below ns s k)
    → list_checks (skeleton_checks below (length ns)) ss ≡ node_checks ns ss
told_same ns below ss same = same_skeletons below (is_below ns) (length ns) ss same

-- ---- skins without a skeleton

no_skeleton : (f : ℕ → ℕ → Bool) (count : ℕ) (js : List ℕ) (s : Option ℕ) → is_some s ≡ false
    → fits_at f count js s ≡ true
no_skeleton f count js None h = refl
no_skeleton f count js (Some s) h = cc

or_none : (a b : Bool) → (a || b) ≡ false → (a ≡ false) × (b ≡ false)
or_none true b h = cc
or_none false b h = (refl, h)

none_from : (f : ℕ → ℕ → Bool) (count i : ℕ) (ss : List Skin)
    (told : List (List Place × Code)) (path : List Place) → have_skeleton ss ≡ false
    → told_after told path (elements_checks (skeleton_checks f count) i ss) ≡ told
none_from f count i [] told path h = refl
none_from f count i (s ∷ ss) told path h =
    let parts = or_none (is_some s.skeleton) (have_skeleton ss) h in
    rw (no_skeleton f count s.joints.items s.skeleton parts.0)
    (none_from f count (i + 1) ss told path parts.1)

pub none_told : (f : ℕ → ℕ → Bool) (count : ℕ) (ss : List Skin)
    (told : List (List Place × Code)) (path : List Place) → have_skeleton ss ≡ false
    → told_after told path (list_checks (skeleton_checks f count) ss) ≡ told
none_told f count ss told path h = none_from f count 0 ss told path h
