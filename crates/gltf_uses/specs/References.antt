-- Which members of a document name an element of a list, and which elements none names.
use Rattle.std.specs.Prelude.{ℕ, Bool, true, false, if◌then◌else◌, ◌==◌, ◌&&◌, List, [], ◌∷◌, ◌++◌}
use Rattle.std.specs.Prelude.{map, slice_set}
use Rattle.std.specs.List.{filter, range_with_len}
use Rattle.gltf_json.specs.declared.root.Root.{Root}
use Rattle.gltf_json_record.specs.Place.{Place}
use Rattle.gltf_validation.specs.Documents.{counts_of}
use Rattle.gltf_uses.specs.declared.kind.Kind.{Kind}
use Rattle.gltf_uses.specs.Documents.{root_uses}
use Rattle.gltf_uses.specs.Kinds.{number, count_of}
use Rattle.gltf_uses.specs.Uses.{Held, held_at}

-- each member of a document that holds an index, in the order of the document's members
abbrev pub held : Root → List Held
held r = held_at [] (root_uses r)

-- it is this index, into this list
abbrev pub names : Kind → ℕ → Held → Bool
names kind i h = number h.kind == number kind && h.index == i

-- the paths of the members that hold this index into this list
unfoldable pub references_of : Root → Kind → ℕ → List (List Place)
references_of r kind i = map (λ h. h.path) (filter (names kind i) (held r))

abbrev pub is_empty : {T : Type 0} → List T → Bool
is_empty [] = true
is_empty (x ∷ xs) = false

-- the numbers of those elements of a list that no member names, in ascending order
unfoldable pub unused_of : Root → Kind → List ℕ
unused_of r kind =
    filter (λ i. is_empty (references_of r kind i))
    (range_with_len 0 (count_of kind (counts_of r)))

-- what a walk keeps that looks for one element
pub record Found : Type 0 where
  pub kind : Kind
  pub index : ℕ
  pub paths : List (List Place)

abbrev pub paths_after : Found → List Place → Kind → ℕ → Found
paths_after found path kind i =
    if number kind == number found.kind && i == found.index
    then record found { paths = found.paths ++ path ∷ [] } else found

-- what a walk keeps that marks the elements of one list
pub record Marked : Type 0 where
  pub kind : Kind
  pub marks : List Bool

abbrev pub marks_after : Marked → List Place → Kind → ℕ → Marked
marks_after marked path kind i =
    if number kind == number marked.kind
    then record marked { marks = slice_set marked.marks i true } else marked
