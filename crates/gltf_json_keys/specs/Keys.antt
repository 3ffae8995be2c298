-- Names of members in a JSON value, and in its text (RFC 8259, sections 4 and 7).
use Rattle.std.specs.Prelude.{◌≡◌, ◌≢◌, ◌⊎◌, ◌<◌, ℕ, List, ◌∷◌, [], ◌++◌, length, slice_index, ⊤}
use Rattle.std.specs.Prelude.{Bool, true, bytes_eq}
use Rattle.std.specs.List.{list_any}
use Rattle.memchr.specs.Find.{OccursAt}
use Rattle.serde_json.specs.Data.{Data, null, boolean, number, string, array, object}
use Rattle.serde_json.specs.Data.{Items, no_items, item, Members, no_members, member}

-- no object in a value, however deep, has a member of this name
abbrev mutual
  pub Lacks : List ℕ → Data → Type 0
  Lacks name null = ⊤
  Lacks name (boolean b) = ⊤
  Lacks name (number n) = ⊤
  Lacks name (string s) = ⊤
  Lacks name (array ds) = ItemsLack name ds
  Lacks name (object ms) = MembersLack name ms

  pub ItemsLack : List ℕ → Items → Type 0
  ItemsLack name no_items = ⊤
  ItemsLack name (item d ds) = Lacks name d × ItemsLack name ds

  pub MembersLack : List ℕ → Members → Type 0
  MembersLack name no_members = ⊤
  MembersLack name (member its d ms) =
      (its ≢ name) × Lacks name d × MembersLack name ms

-- whether a name is one of these
abbrev pub is_among : List (List ℕ) → List ℕ → Bool
is_among names its = list_any (λ k. bytes_eq its k) names

-- those members of an object that have one of these names have no member of this name in them
abbrev pub MembersPartsLack : List (List ℕ) → List ℕ → Members → Type 0
MembersPartsLack parts name no_members = ⊤
MembersPartsLack parts name (member its d ms) =
    (is_among parts its ≡ true → Lacks name d) × MembersPartsLack parts name ms

-- the same of a value: what is no object has no such members
abbrev pub PartsLack : List (List ℕ) → List ℕ → Data → Type 0
PartsLack parts name null = ⊤
PartsLack parts name (boolean b) = ⊤
PartsLack parts name (number n) = ⊤
PartsLack parts name (string s) = ⊤
PartsLack parts name (array ds) = ⊤
PartsLack parts name (object ms) = MembersPartsLack parts name ms

-- a name as it stands in a text that has no escapes: between quotes
abbrev pub in_quotes : List ℕ → List ℕ
in_quotes name = 34 ∷ (name ++ 34 ∷ [])

-- a byte of the text is a backslash, or these bytes stand somewhere in it
abbrev pub MayHave : List ℕ → List ℕ → Type 0
MayHave text bytes =
    ((k : ℕ) × (k < length text) × (slice_index text k ≡ 92)) ⊎ ((k : ℕ) × OccursAt text bytes k)
