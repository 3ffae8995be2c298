-- Which elements of the lists of a document some member names, as a mark for each.
use Rattle.std.specs.Prelude.{ℕ, ◌+◌, Bool, true, false, not, if◌then◌else◌, List, [], ◌∷◌, map}
use Rattle.std.specs.Prelude.{replicate, get_or, set, slice_set}
use Rattle.std.specs.List.{range_with_len}
use Rattle.gltf_json.specs.declared.root.Root.{Root}
use Rattle.gltf_json_record.specs.Place.{Place}
use Rattle.gltf_validation.specs.Documents.{counts_of}
use Rattle.gltf_validation.specs.declared.counts.Counts.{Counts}
use Rattle.gltf_uses.specs.declared.kind.Kind.{Kind}
use Rattle.gltf_uses.specs.Kinds.{number, all_kinds, count_of}
use Rattle.gltf_uses.specs.References.{references_of, is_empty}

-- for each element of a list, in order, whether some member names it
unfoldable pub used_of : Root → Kind → List Bool
used_of r kind =
    map (λ i. not (is_empty (references_of r kind i)))
    (range_with_len 0 (count_of kind (counts_of r)))

-- the marks of one list, among those of all lists by their numbers
abbrev pub marks_of : Kind → List (List Bool) → List Bool
marks_of kind lists = get_or lists (number kind) []

-- the numbers of the marks that are not set, in ascending order, where the first has number i
abbrev pub unset_from : ℕ → List Bool → List ℕ
unset_from i [] = []
unset_from i (mark ∷ marks) =
    if mark then unset_from (i + 1) marks else i ∷ unset_from (i + 1) marks

abbrev pub unset : List Bool → List ℕ
unset marks = unset_from 0 marks

-- the numbers of those elements of a list whose mark is not set
abbrev pub unused_in : List (List Bool) → Kind → List ℕ
unused_in lists kind = unset (marks_of kind lists)

-- no mark is set, for lists of these lengths
abbrev pub no_marks : Counts → List (List Bool)
no_marks counts = map (λ kind. replicate (count_of kind counts) false) all_kinds

-- what a walk keeps that marks the elements of all lists
abbrev pub usage_after : List (List Bool) → List Place → Kind → ℕ → List (List Bool)
usage_after lists path kind i = set lists (number kind) (slice_set (marks_of kind lists) i true)
