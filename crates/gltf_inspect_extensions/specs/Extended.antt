-- The extensions that are used in records: "All extensions used in a glTF asset MUST be listed in
-- the top-level extensionsUsed array object" (glTF 2.0, section 3.12).
use Rattle.std.specs.Prelude.{ℕ, Bool, List, [], ◌∷◌, Option, Some, None, codes}
use Rattle.std.specs.String.{string_bytes}
use Rattle.std.specs.declared.string.String.{String}
use Rattle.std.specs.declared.alloc.Global.{Global}
use Rattle.serde_json.specs.declared.value.Value.{Value}
use Rattle.gltf_json_record.specs.Place.{keyed}
use Rattle.gltf_json_record.specs.declared.extensions.Others.{Others}
use Rattle.gltf_findings.specs.declared.code.Code.TheVariants.{UndeclaredExtension}
use Rattle.gltf_findings.specs.Checks.{Checks, Nothing, Condition, At, ◌&◌, member, optional_checks}

-- whether extensionsUsed has a name
abbrev pub Names : Type 0
Names = List ℕ → Bool

abbrev pub declared_checks : Names → List ℕ → Checks
declared_checks used name = Condition (used name) UndeclaredExtension

-- the members of `extensions` of which no record is made
abbrev pub entries_checks : Names → List (String Global × Value) → Checks
entries_checks used [] = Nothing
entries_checks used (entry ∷ entries) =
    At (keyed (string_bytes entry.0)) (declared_checks used (string_bytes entry.0))
    & entries_checks used entries

-- one of which a record is made
abbrev pub known_checks : {T : Type 0} → Names → List ℕ → Option T → Checks
known_checks used name None = Nothing
known_checks used name (Some x) = member name (declared_checks used name)

abbrev pub others_checks : Names → Others → Checks
others_checks used o = entries_checks used o.others.entries

-- those of a record
abbrev pub extensions_checks : {T : Type 0} → (T → Checks) → Option T → Checks
extensions_checks checks extensions =
    member (codes "extensions") (optional_checks checks extensions)
