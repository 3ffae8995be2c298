-- The indices that a value holds.
use Rattle.std.specs.Prelude.{ℕ, ◌+◌, List, [], ◌∷◌, ◌++◌, Option, Some, None}
use Rattle.gltf_json_record.specs.Place.{Place, named, numbered}
use Rattle.gltf_uses.specs.declared.kind.Kind.{Kind}

-- the uses that a value makes of the elements of lists: none, that of the element of a list at an
-- index, those of what stands one step further in, or some and then others
pub data Uses : Type 0 where
  Nothing : Uses
  Use : Kind → ℕ → Uses
  At : Place → Uses → Uses
  Both : Uses → Uses → Uses

infixr 30 ◌&◌
abbrev pub ◌&◌ : Uses → Uses → Uses
a & b = Both a b

-- the uses of what stands at a member
abbrev pub member : List ℕ → Uses → Uses
member name uses = At (named name) uses

abbrev pub optional_uses : {T : Type 0} → (T → Uses) → Option T → Uses
optional_uses uses None = Nothing
optional_uses uses (Some x) = uses x

-- the elements from index i on
abbrev pub elements_uses : {T : Type 0} → (T → Uses) → ℕ → List T → Uses
elements_uses uses i [] = Nothing
elements_uses uses i (x ∷ xs) = At (numbered i) (uses x) & elements_uses uses (i + 1) xs

abbrev pub list_uses : {T : Type 0} → (T → Uses) → List T → Uses
list_uses uses xs = elements_uses uses 0 xs

-- a member that holds an index: its path, the list that the index points into, and the index
pub record Held : Type 0 where
  pub path : List Place
  pub kind : Kind
  pub index : ℕ

-- all of them, in order
abbrev pub held_at : List Place → Uses → List Held
held_at path Nothing = []
held_at path (Use kind i) = record { path = path; kind = kind; index = i } ∷ []
held_at path (At step uses) = held_at (path ++ step ∷ []) uses
held_at path (Both some others) = held_at path some ++ held_at path others

-- what a walk has, once it has passed these uses too and added each in turn
abbrev pub after_uses : {S : Type 0} → (S → List Place → Kind → ℕ → S) → S → List Place → Uses → S
after_uses add s path Nothing = s
after_uses add s path (Use kind i) = add s path kind i
after_uses add s path (At step uses) = after_uses add s (path ++ step ∷ []) uses
after_uses add s path (Both some others) =
    after_uses add (after_uses add s path some) path others
