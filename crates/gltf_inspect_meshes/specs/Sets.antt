-- The sets of attributes (glTF 2.0, section 3.7.2.1): "the [..] set index [..] MUST start with 0
-- and be consecutive positive integers"; and as many sets of joints as of weights (3.7.3.3).
use Rattle.std.specs.Prelude.{ℕ, ◌+◌, ◌==◌, ◌&&◌, if◌then◌else◌, Bool, true, length, List, [], ◌∷◌}
use Rattle.gltf_json_geometry.specs.declared.semantic.Semantic.{Semantic}
use Rattle.gltf_findings.specs.declared.code.Code.TheVariants.{IndexedSemanticContinuity}
use Rattle.gltf_findings.specs.declared.code.Code.TheVariants.{JointsWeightsMismatch}
use Rattle.gltf_findings.specs.Checks.{Checks, Condition, ◌&◌}
use Rattle.gltf_inspect_meshes.specs.Meanings.{meaning_number, set_number}

-- the numbers of the sets of a kind, in order
abbrev pub sets : ℕ → List (Semantic × ℕ) → List ℕ
sets kind [] = []
sets kind (entry ∷ entries) =
    if meaning_number entry.0 == kind then set_number entry.0 ∷ sets kind entries
    else sets kind entries

-- the numbers are i, i + 1, and so on
abbrev pub count_up : ℕ → List ℕ → Bool
count_up i [] = true
count_up i (n ∷ ns) = n == i && count_up (i + 1) ns

abbrev pub are_consecutive : ℕ → List (Semantic × ℕ) → Bool
are_consecutive kind entries = count_up 0 (sets kind entries)

abbrev pub sets_checks : List (Semantic × ℕ) → Checks
sets_checks entries =
    Condition (are_consecutive 4 entries && are_consecutive 5 entries
    && are_consecutive 6 entries && are_consecutive 7 entries) IndexedSemanticContinuity
    & Condition (length (sets 6 entries) == length (sets 7 entries)) JointsWeightsMismatch
