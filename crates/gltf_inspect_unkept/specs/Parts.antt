-- Checks of JSON values, made of smaller ones.
use Rattle.std.specs.Prelude.{ℕ, Bool, List, ◌+◌, codes}
use Rattle.serde_json.specs.Data.{Data, null, boolean, number, string, array, object}
use Rattle.serde_json.specs.Data.{Items, no_items, item, Members, no_members}
use Rattle.serde_json.specs.Data as json
use Rattle.gltf_json_record.specs.Member.{member_at}
use Rattle.gltf_json_record.specs.Place.{numbered, keyed}
use Rattle.gltf_findings.specs.declared.code.Code.TheVariants.{UndeclaredExtension}
use Rattle.gltf_findings.specs.Checks.{Checks, Nothing, Condition, At, ◌&◌, member, optional_checks}

-- whether a document declares a name
abbrev pub Names : Type 0
Names = List ℕ → Bool

-- the checks of a value
abbrev pub ChecksOf : Type 0
ChecksOf = Names → Data → Checks

-- those of the member of this name, where it is there
abbrev pub at_checks : List ℕ → ChecksOf → ChecksOf
at_checks name checks used d = member name (optional_checks (checks used) (member_at name d))

abbrev pub items_checks : (Data → Checks) → ℕ → Items → Checks
items_checks checks i no_items = Nothing
items_checks checks i (item d ds) = At (numbered i) (checks d) & items_checks checks (i + 1) ds

-- those of each element of an array
abbrev pub each_checks : ChecksOf → ChecksOf
each_checks checks used null = Nothing
each_checks checks used (boolean b) = Nothing
each_checks checks used (number n) = Nothing
each_checks checks used (string s) = Nothing
each_checks checks used (array ds) = items_checks (checks used) 0 ds
each_checks checks used (object ms) = Nothing

-- some, and then others
abbrev pub both_checks : ChecksOf → ChecksOf → ChecksOf
both_checks some others used d = some used d & others used d

abbrev pub names_checks : Names → Members → Checks
names_checks used no_members = Nothing
names_checks used (json.member name d ms) =
    At (keyed name) (Condition (used name) UndeclaredExtension) & names_checks used ms

-- the name of each member of an object is declared
abbrev pub declared_checks : ChecksOf
declared_checks used null = Nothing
declared_checks used (boolean b) = Nothing
declared_checks used (number n) = Nothing
declared_checks used (string s) = Nothing
declared_checks used (array ds) = Nothing
declared_checks used (object ms) = names_checks used ms

-- the extensions of an object
abbrev pub extended : ChecksOf
extended = at_checks (codes "extensions") declared_checks
