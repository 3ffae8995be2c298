-- What is found in indices decides their checks.
use Rattle.std.proofs.Common.{◌≡◌, ℕ, zero, suc, ◌⊎◌, inl, inr, Bool, true, false}
use Rattle.std.proofs.Common.{◌||◌, ◌&&◌, List, [], ◌∷◌, map, set, Option, Some, None}
use Rattle.std.proofs.Common.{refl, sym, ap, subst, ◌∙◌, arith, replicate, leb, eqb}
use Rattle.std.specs.Prelude.{nat_le, unwrap_or, is_some, slice_get}
use Rattle.std.specs.List.{list_any}
use Rattle.std.proofs.lemmas.Bool.{cases_lt, true≢false, le-leb, lt-leb}
use Rattle.gltf_json.specs.declared.root.Root.{Root}
use Rattle.gltf_json_record.specs.declared.validation.Checked.{Checked}
use Rattle.gltf_json_record.specs.declared.validation.Checked.TheVariants.{Invalid, Valid}
use Rattle.gltf_json_geometry.specs.declared.accessor.Accessor.{Accessor}
use Rattle.gltf_json_geometry.specs.declared.accessor.ComponentType.{ComponentType}
use Rattle.gltf_json_geometry.specs.declared.accessor.ComponentType.TheVariants as code
use Rattle.gltf_findings.specs.Checks.{◌&◌}
use Rattle.gltf_inspect_items.specs.Found.{wider, nothing, with_index, with_indices, past_by}
use Rattle.gltf_inspect_items.specs.Found.{IsFound, IsFoundIn, IsFoundAt, AreFound, found_checks}
use Rattle.gltf_inspect_items.specs.Found.{are_indices, degenerate_in}
use Rattle.gltf_inspect_items.specs.Indices.{is_past, is_restart, any_degenerate, numbers_checks}
use Rattle.gltf_inspect_items.specs.Indices.{typed_checks}
use Rattle.gltf_inspect_items.specs.Members.{HaveSameItems}
use Rattle.gltf_inspect_items.specs.Reading.{Bytes, items_at, number}
use Rattle.gltf_inspect_items.specs.declared.found.Found.{Found}

or_more : (a b c : Bool) → ((a || b) || c) ≡ (a || (b || c))
or_more true b c = refl
or_more false b c = refl

or_none : (b : Bool) → b ≡ (b || false)
or_none true = refl
or_none false = refl

or_all : (b : Bool) → true ≡ (b || true)
or_all true = refl
or_all false = refl

-- a further index that is not the greatest number
past_wider : (v : ℕ) (greatest : Option ℕ) (x : ℕ)
    → past_by (Some v) (wider greatest x) ≡ (past_by (Some v) greatest || nat_le v x)
past_wider v None x = refl
past_wider v (Some g) x = elim (cases_lt g x) [
  | inl more ↦ rw (lt-leb x g more) (elim (cases_lt x v) [
    | inl below ↦ rw (lt-leb v x below, lt-leb v g (omega arith)) refl
    | inr past ↦ rw (le-leb v x past) (or_all (nat_le v g))
  ])
  | inr least ↦ rw (le-leb x g least) (elim (cases_lt x v) [
    | inl below ↦ rw (lt-leb v x below) (or_none (nat_le v g))
    | inr past ↦ rw (le-leb v x past, le-leb v g (omega arith)) refl
  ])
]

or_none_of : (b c : Bool) → b ≡ (b || (c && false))
or_none_of true c = refl
or_none_of false true = refl
or_none_of false false = refl

and_all : (b : Bool) → b ≡ (b && true)
and_all true = refl
and_all false = refl

none_some : {is : Bool} → None ≡ Some is → ⊥
none_some e = cc

module _ (most : ℕ) where
  past_with : (v : ℕ) (found : Found) (x : ℕ) (top : Bool) → eqb x most ≡ top
      → past_by (Some v) (with_index most found x).greatest
      ≡ (past_by (Some v) found.greatest || is_past (Some v) most x)
  past_with v found x true is =
      rw is (or_none_of (past_by (Some v) found.greatest) (nat_le v x))
  past_with v found x false is =
      rw is (past_wider v found.greatest x
      ∙ ap (λ b. past_by (Some v) found.greatest || b) (and_all (nat_le v x)))

  past_after : (v : ℕ) (found : Found) (xs : List ℕ)
      → past_by (Some v) (with_indices most found xs).greatest
      ≡ (past_by (Some v) found.greatest || list_any (λ x. is_past (Some v) most x) xs)
  past_after v found [] = or_none (past_by (Some v) found.greatest)
  past_after v found (x ∷ xs) =
      past_after v (with_index most found x) xs
      ∙ ap (λ b. b || list_any (λ y. is_past (Some v) most y) xs)
      (past_with v found x (eqb x most) refl)
      ∙ or_more (past_by (Some v) found.greatest) (is_past (Some v) most x)
      (list_any (λ y. is_past (Some v) most y) xs)

  restart_with : (found : Found) (x : ℕ) (top : Bool) → eqb x most ≡ top
      → (with_index most found x).restarts ≡ (found.restarts || is_restart most x)
  restart_with found x true is = rw is (or_all found.restarts)
  restart_with found x false is = rw is (or_none found.restarts)

  restart_after : (found : Found) (xs : List ℕ)
      → (with_indices most found xs).restarts
      ≡ (found.restarts || list_any (λ x. is_restart most x) xs)
  restart_after found [] = or_none found.restarts
  restart_after found (x ∷ xs) =
      restart_after (with_index most found x) xs
      ∙ ap (λ b. b || list_any (λ y. is_restart most y) xs)
      (restart_with found x (eqb x most) refl)
      ∙ or_more found.restarts (is_restart most x) (list_any (λ y. is_restart most y) xs)

  unlooked_with : (found : Found) (x : ℕ) (top : Bool) → eqb x most ≡ top
      → (with_index most found x).degenerate ≡ found.degenerate
  unlooked_with found x true is = rw is refl
  unlooked_with found x false is = rw is refl

  unlooked : (found : Found) (xs : List ℕ)
      → (with_indices most found xs).degenerate ≡ found.degenerate
  unlooked found [] = refl
  unlooked found (x ∷ xs) =
      unlooked (with_index most found x) xs ∙ unlooked_with found x (eqb x most) refl

  module _ {X : Type 0} (f : X → ℕ) where
    any_of_map : (test : ℕ → Bool) (xs : List X)
        → list_any test (map f xs) ≡ list_any (λ x. test (f x)) xs
    any_of_map test [] = refl
    any_of_map test (x ∷ xs) = ap (λ b. test (f x) || b) (any_of_map test xs)

    past_all : (vertices : Option ℕ) (xs : List X)
        → past_by vertices (with_indices most nothing (map f xs)).greatest
        ≡ list_any (λ x. is_past vertices most (f x)) xs
    past_all None [] = refl
    past_all None (x ∷ xs) = past_all None xs
    past_all (Some v) xs =
        past_after v nothing (map f xs) ∙ any_of_map (λ x. is_past (Some v) most x) xs

    -- what is found in the same items is found in these
    pub found_in_same : (members items : List X) → HaveSameItems members items
        → IsFound f most items (with_indices most nothing (map f members))
    found_in_same members items same = record {
      past = λ vertices.
          past_all vertices members ∙ same.any (λ x. is_past vertices most (f x));
      restarts =
          restart_after nothing (map f members)
          ∙ any_of_map (λ x. is_restart most x) members
          ∙ same.any (λ x. is_restart most (f x));
      degenerate = λ is some.
          let none : (with_indices most nothing (map f members)).degenerate ≡ None =
          unlooked nothing (map f members) in
          absurd (none_some (sym none ∙ some));
    }

-- ---- by the type of components

-- it decides the checks, with triangles where these are asked for
looked_at : (triangles : Bool) (found : Option Bool) (is : Bool)
    → ((d : Bool) → found ≡ Some d → d ≡ is) → (triangles ≡ true → is_some found ≡ true)
    → (triangles && unwrap_or found false) ≡ (triangles && is)
looked_at false found is same whole = refl
looked_at true None is same whole = absurd (true≢false (sym (whole refl)))
looked_at true (Some d) is same whole = same d refl

decided_by : {X : Type 0} (f : X → ℕ) (most : ℕ) (items : List X) (found : Found)
    (vertices : Option ℕ) (triangles : Bool) → IsFound f most items found
    → (triangles ≡ true → is_some found.degenerate ≡ true)
    → found_checks vertices triangles found ≡ numbers_checks f most vertices triangles items
decided_by f most items found vertices triangles known whole =
    rw (
      known.past vertices,
      known.restarts,
      looked_at triangles found.degenerate (any_degenerate f items) known.degenerate whole,
    ) refl

module _ (r : Root) (bytes : Bytes) (i : ℕ) where
  pub decided : (t : Checked ComponentType) (found : Found) (vertices : Option ℕ) (triangles : Bool)
      → IsFoundIn r bytes i t found → are_indices t ≡ true
      → (triangles ≡ true → is_some found.degenerate ≡ true)
      → found_checks vertices triangles found ≡ typed_checks r bytes vertices triangles i t
  decided Invalid found vertices triangles known is whole = absurd (true≢false (sym is))
  decided (Valid code.I8) found vertices triangles known is whole = absurd (true≢false (sym is))
  decided (Valid code.I16) found vertices triangles known is whole = absurd (true≢false (sym is))
  decided (Valid code.F32) found vertices triangles known is whole = absurd (true≢false (sym is))
  decided (Valid code.U8) found vertices triangles known is whole =
      decided_by (λ n. n) 255 (items_at (number 1) r bytes i) found vertices triangles known whole
  decided (Valid code.U16) found vertices triangles known is whole =
      decided_by (λ n. n) 65535 (items_at (number 2) r bytes i) found vertices triangles known whole
  decided (Valid code.U32) found vertices triangles known is whole =
      decided_by (λ n. n) 4294967295 (items_at (number 4) r bytes i) found vertices triangles known
      whole

  with_by : {X : Type 0} (f : X → ℕ) (most : ℕ) (items : List X) (found : Found) (d : Bool)
      → IsFound f most items found → d ≡ any_degenerate f items
      → IsFound f most items (record found { degenerate = Some d })
  with_by f most items found d known is = record {
    past = known.past;
    restarts = known.restarts;
    degenerate = λ other some. let same : d ≡ other = cc (some) in sym same ∙ is;
  }

  pub with_degenerate : (t : Checked ComponentType) (found : Found) (d : Bool)
      → IsFoundIn r bytes i t found → d ≡ degenerate_in r bytes i t
      → IsFoundIn r bytes i t (record found { degenerate = Some d })
  with_degenerate Invalid found d known is = tt
  with_degenerate (Valid code.I8) found d known is = tt
  with_degenerate (Valid code.I16) found d known is = tt
  with_degenerate (Valid code.F32) found d known is = tt
  with_degenerate (Valid code.U8) found d known is =
      with_by (λ n. n) 255 (items_at (number 1) r bytes i) found d known is
  with_degenerate (Valid code.U16) found d known is =
      with_by (λ n. n) 65535 (items_at (number 2) r bytes i) found d known is
  with_degenerate (Valid code.U32) found d known is =
      with_by (λ n. n) 4294967295 (items_at (number 4) r bytes i) found d known is

-- ---- at the index of an accessor

pub in_table : (r : Root) (bytes : Bytes) (i : ℕ) (a : Accessor) (found : Found)
    → slice_get r.accessors.items i ≡ Some a
    → IsFoundAt r bytes i (slice_get r.accessors.items i) found
    → IsFoundIn r bytes i a.component_type found
in_table r bytes i a found here known =
    subst (λ (o : Option Accessor). IsFoundAt r bytes i o found) here known

at_write : {X : Type 0} (xs : List X) (i j : ℕ) (x y : X) → slice_get (set xs i x) j ≡ Some y
    → (slice_get xs j ≡ Some y) ⊎ ((i ≡ j) × (x ≡ y))
at_write [] i j x y is = cc
at_write (z ∷ xs) zero zero x y is = inr (refl, cc)
at_write (z ∷ xs) zero (suc j) x y is = inl is
at_write (z ∷ xs) (suc i) zero x y is = inl is
at_write (z ∷ xs) (suc i) (suc j) x y is = elim (at_write xs i j x y is) [
  | inl before ↦ inl before
  | inr here ↦ inr (ap suc here.0, here.1)
]

pub still : (r : Root) (bytes : Bytes) (table : List (Option Found)) (i : ℕ) (a : Accessor)
    (found : Found) → slice_get r.accessors.items i ≡ Some a → AreFound r bytes table
    → IsFoundIn r bytes i a.component_type found → AreFound r bytes (set table i (Some found))
still r bytes table i a found here before known j other is =
    elim (at_write table i j (Some found) (Some other) is) [
      | inl there ↦ before j other there
      | inr now ↦
          let same : found ≡ other = cc (now.1) in
          subst (λ k. IsFoundAt r bytes k (slice_get r.accessors.items k) other) now.0
          (subst (λ (f : Found). IsFoundAt r bytes i (slice_get r.accessors.items i) f) same
          (subst (λ (o : Option Accessor). IsFoundAt r bytes i o found) (sym here) known))
    ]

none_at : {X : Type 0} (n i : ℕ) (x : X)
    → slice_get (replicate n (let none : Option X = None in none)) i ≡ Some (Some x) → ⊥
none_at zero i x is = cc
none_at (suc n) zero x is = cc
none_at (suc n) (suc i) x is = none_at n i x is

pub none_yet : (r : Root) (bytes : Bytes) (n : ℕ) → AreFound r bytes (replicate n None)
none_yet r bytes n i found is = absurd (none_at n i found is)
