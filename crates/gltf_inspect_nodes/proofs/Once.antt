-- What is named once: nothing is found twice there.
use Rattle.std.proofs.Common.{◌≡◌, ℕ, ◌+◌, Bool, true, false, ◌&&◌, ◌||◌, List, [], ◌∷◌, ◌++◌}
use Rattle.std.proofs.Common.{refl, sym, ◌∙◌, ap, subst, set, append_assoc}
use Rattle.std.specs.Prelude.{nat_eq, nat_lt, not}
use Rattle.std.specs.List.{list_any}
use Rattle.std.proofs.Math.Bool.{and_assoc}
use Rattle.std.proofs.lemmas.List.{append-nil}
use Rattle.std.proofs.lemmas.List.Folds.{list_any-append}
use Rattle.gltf_json_record.specs.Place.{Place, named, numbered}
use Rattle.gltf_findings.specs.declared.code.Code.{Code}
use Rattle.gltf_findings.specs.Checks.{told_after, member, elements_checks}
use Rattle.gltf_inspect_nodes.specs.Named.{is_named, all_named}
use Rattle.gltf_inspect_nodes.specs.Graphs.{unique_checks, node_key, node_told, uniques_checks}
use Rattle.gltf_inspect_nodes.specs.Marks.{is_marked, marked, are_new, are_all_new, AreMarks}
use Rattle.gltf_inspect_nodes.specs.Hierarchies.{AreNamedOnce}
use Rattle.gltf_inspect_nodes.specs.OnceLaws.{OnceAfter, first_part, last_part}
use Rattle.gltf_inspect_nodes.proofs.Marking.{one-more}

-- ---- by marks

both : (a b : Bool) → (a && b) ≡ true → (a ≡ true) × (b ≡ true)
both true b h = (refl, h)
both false b h = cc

not_false : (b : Bool) → not b ≡ true → b ≡ false
not_false true h = sym h
not_false false h = refl

new-append : (marks : List Bool) (xs ys : List ℕ)
    → are_new marks (xs ++ ys) ≡ (are_new marks xs && are_new (marked marks xs) ys)
new-append marks [] ys = refl
new-append marks (x ∷ xs) ys =
    ap (λ b. not (is_marked marks x) && b) (new-append (set marks x true) xs ys)
    ∙ sym (and_assoc (not (is_marked marks x)) (are_new (set marks x true) xs)
    (are_new (marked (set marks x true) xs) ys))

pub all-new : {T : Type 0} (f : T → List ℕ) (marks : List Bool) (xs : List T)
    → are_all_new f marks xs ≡ are_new marks (all_named f xs)
all-new f marks [] = refl
all-new f marks (x ∷ xs) =
    ap (λ b. are_new marks (f x) && b) (all-new f (marked marks (f x)) xs)
    ∙ sym (new-append marks (f x) (all_named f xs))

once_from : (count : ℕ) (seen : List ℕ) (marks : List Bool) (before after : List ℕ) (k : ℕ)
    → AreMarks count seen marks → are_new marks (before ++ (k ∷ after)) ≡ true
    → is_named count (seen ++ before) k ≡ false
once_from count seen marks [] after k h new =
    rw (append-nil seen) (sym (h.each k) ∙ not_false (is_marked marks k)
    (both (not (is_marked marks k)) (are_new (set marks k true) after) new).0)
once_from count seen marks (x ∷ before) after k h new =
    rw (← append_assoc seen (x ∷ []) before)
    (once_from count (seen ++ x ∷ []) (set marks x true) before after k
    (one-more count seen marks x h)
    (both (not (is_marked marks x)) (are_new (set marks x true) (before ++ (k ∷ after))) new).1)

-- those that have no mark when they come, where nothing is marked before
pub named-once : (count : ℕ) (marks : List Bool) (ks : List ℕ) → AreMarks count [] marks
    → are_new marks ks ≡ true → AreNamedOnce count ks
named-once count marks ks h new before after k e =
    once_from count [] marks before after k h (subst (λ xs. are_new marks xs ≡ true) e new)

-- ---- what was seen before does not matter

and_last : (a b c : Bool) → (a && (b || c)) ≡ false → (a && c) ≡ false
and_last true true c h = cc
and_last true false c h = h
and_last false b c h = refl

not_seen : (count : ℕ) (seen before : List ℕ) (k : ℕ)
    → is_named count (seen ++ before) k ≡ false → is_named count before k ≡ false
not_seen count seen before k h =
    and_last (nat_lt k count) (list_any (nat_eq k) seen) (list_any (nat_eq k) before)
    (ap (λ b. nat_lt k count && b) (sym (list_any-append (nat_eq k) seen before)) ∙ h)

alone : (count : ℕ) (seen ks : List ℕ) → OnceAfter count seen ks → OnceAfter count [] ks
alone count seen ks h before after k e = not_seen count seen before k (h before after k e)

-- ---- what is told of it

unique_told : (count : ℕ) (seen : List ℕ) (i : ℕ) (ks : List ℕ)
    (told : List (List Place × Code)) (path : List Place) → OnceAfter count seen ks
    → told_after told path (unique_checks node_key node_told count seen i ks) ≡ told
unique_told count seen i [] told path h = refl
unique_told count seen i (k ∷ ks) told path h =
    let new : is_named count seen k ≡ false =
    subst (λ ns. is_named count ns k ≡ false) (append-nil seen) (h [] ks k refl) in
    rw new
    (unique_told count (seen ++ k ∷ []) (i + 1) ks told path (last_part count seen (k ∷ []) ks h))

lists_told : {T : Type 0} (f : T → List ℕ) (name : List ℕ) (count i : ℕ) (seen : List ℕ)
    (xs : List T) (told : List (List Place × Code)) (path : List Place)
    → OnceAfter count seen (all_named f xs)
    → told_after told path (elements_checks
    (λ x. member name (unique_checks node_key node_told count [] 0 (f x))) i xs) ≡ told
lists_told f name count i seen [] told path h = refl
lists_told f name count i seen (x ∷ xs) told path h =
    let here = unique_told count [] 0 (f x) told ((path ++ numbered i ∷ []) ++ named name ∷ [])
    (alone count seen (f x) (first_part count seen (f x) (all_named f xs) h)) in
    let others = lists_told f name count (i + 1) (seen ++ f x) xs told path
    (last_part count seen (f x) (all_named f xs) h) in
    ap (λ t. told_after t path (elements_checks
    (λ y. member name (unique_checks node_key node_told count [] 0 (f y))) (i + 1) xs)) here
    ∙ others

-- where all lists together name nothing twice, nothing is told of each
pub nothing_told : {T : Type 0} (f : T → List ℕ) (name : List ℕ) (count : ℕ) (xs : List T)
    (told : List (List Place × Code)) (path : List Place) → AreNamedOnce count (all_named f xs)
    → told_after told path (uniques_checks f name count xs) ≡ told
nothing_told f name count xs told path h = lists_told f name count 0 [] xs told path h
