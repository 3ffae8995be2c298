-- What is found in the values of an accessor.
use Rattle.std.specs.Prelude.{ℕ, not, ◌||◌, Bool, true, false, List, is_some}
use Rattle.std.specs.List.{list_any}
use Rattle.gltf_json.specs.declared.root.Root.{Root}
use Rattle.gltf_json_record.specs.declared.validation.Checked.{Checked}
use Rattle.gltf_json_record.specs.declared.validation.Checked.TheVariants.{Valid}
use Rattle.gltf_json_geometry.specs.declared.accessor.Accessor.{Accessor}
use Rattle.gltf_json_geometry.specs.declared.accessor.ComponentType.{ComponentType}
use Rattle.gltf_json_geometry.specs.declared.accessor.ComponentType.TheVariants.{F32}
use Rattle.gltf_findings.specs.declared.code.Code.TheVariants.{InvalidFloat}
use Rattle.gltf_findings.specs.Checks.{Checks, Nothing, Condition, ◌&◌}
use Rattle.gltf_inspect_items.specs.Reading.{Bytes}
use Rattle.gltf_inspect_values.specs.Bounds.{bounds_checks}
use Rattle.gltf_inspect_values.specs.Components.{has_infinite}
use Rattle.gltf_inspect_values.specs.Items.{item_bytes}
use Rattle.gltf_inspect_values.specs.Stored.{sparse_checks}

-- "Values of NaN, +Infinity, and -Infinity MUST NOT be present" (glTF 2.0, section 3.6.2.2): the
-- check of floats, of which some are infinite, or none is
abbrev pub infinite_checks : Checked ComponentType → Bool → Checks
infinite_checks (Valid F32) infinite = Condition (not infinite) InvalidFloat
infinite_checks _ infinite = Nothing

abbrev pub floats_checks : Checked ComponentType → List (List ℕ) → Checks
floats_checks t items = infinite_checks t (list_any has_infinite items)

-- checks ask for the items of an accessor: those of floats, and those of bounds that are stated
abbrev pub are_floats : Checked ComponentType → Bool
are_floats (Valid F32) = true
are_floats _ = false

abbrev pub are_asked_for : Accessor → Bool
are_asked_for a = are_floats a.component_type || (is_some a.min || is_some a.max)

-- the checks of the items of accessor a
abbrev pub items_checks : Accessor → List (List ℕ) → Checks
items_checks a items = floats_checks a.component_type items & bounds_checks a items

-- the checks of accessor i, which is a
abbrev pub accessor_checks : Root → Bytes → ℕ → Accessor → Checks
accessor_checks r bytes i a =
    floats_checks a.component_type (item_bytes r bytes i a)
    & bounds_checks a (item_bytes r bytes i a)
    & sparse_checks r bytes a
