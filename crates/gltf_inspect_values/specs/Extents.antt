-- The least and the greatest number of a column, which decide the checks of its bounds.
use Rattle.std.specs.Prelude.{ℕ, ◌+◌, ◌&&◌, not, if◌then◌else◌, Bool, true, false, List, [], ◌∷◌}
use Rattle.std.specs.Prelude.{Option, Some, None, slice_get}
use Rattle.std.specs.Float.{Float}
use Rattle.std.specs.Float.Ieee.{inf, lt, le, eq}
use Rattle.serde_json.specs.Data.{Data}
use Rattle.gltf_json_record.specs.declared.validation.Checked.{Checked}
use Rattle.gltf_json_geometry.specs.declared.accessor.ComponentType.{ComponentType}
use Rattle.gltf_findings.specs.declared.code.Code.TheVariants.{MinMismatch, MaxMismatch}
use Rattle.gltf_findings.specs.declared.code.Code.TheVariants.{ElementOutOfMinBound}
use Rattle.gltf_findings.specs.declared.code.Code.TheVariants.{ElementOutOfMaxBound}
use Rattle.gltf_findings.specs.Checks.{Checks, Condition, ◌&◌, optional_checks}
use Rattle.gltf_inspect_values.specs.Bounds.{stated}
use Rattle.gltf_inspect_values.specs.declared.bounds.Bound.{Bound}
use Rattle.gltf_inspect_values.specs.declared.bounds.Bound.TheVariants.{Least, Greatest}
use Rattle.gltf_inspect_values.specs.declared.extent.Extent.{Extent}
use Rattle.gltf_inspect_values.specs.declared.extent.Four.{Four}
use Rattle.gltf_inspect_values.specs.declared.extent.Columns.{Columns}

-- the extent of no numbers: no number is above its least one, or below its greatest one
abbrev pub nothing : Extent
nothing = record { least = inf false; greatest = inf true }

-- that of a further number too, where there is one. What is not a number changes nothing
abbrev pub widened : Extent → Option Float → Extent
widened e None = e
widened e (Some x) = record {
  least = if lt x e.least then x else e.least;
  greatest = if lt e.greatest x then x else e.greatest;
}

-- that of the numbers of some items too
abbrev pub widened_over : {X : Type 0} → (X → Option Float) → Extent → List X → Extent
widened_over number e [] = e
widened_over number e (item ∷ items) = widened_over number (widened e (number item)) items

-- the extent of the numbers of items
abbrev pub extent : {X : Type 0} → (X → Option Float) → List X → Extent
extent number items = widened_over number nothing items

-- some number is in the column
abbrev pub has_number : Extent → Bool
has_number e = le e.least e.greatest

-- the least number of the column is x; the greatest one
abbrev pub least_is : Extent → Float → Bool
least_is e x = eq e.least x && has_number e

abbrev pub greatest_is : Extent → Float → Bool
greatest_is e x = eq e.greatest x && has_number e

-- four columns from i on
abbrev pub four : (ℕ → Extent) → ℕ → Four
four column i = record {
  first = column i;
  second = column (i + 1);
  third = column (i + 2);
  fourth = column (i + 3);
}

abbrev pub columns : (ℕ → Extent) → Columns
columns column = record {
  first = four column 0;
  second = four column 4;
  third = four column 8;
  fourth = four column 12;
}

-- the same columns with the numbers of a further item
abbrev pub widened_four : (ℕ → Option Float) → ℕ → Four → Four
widened_four number i f = record {
  first = widened f.first (number i);
  second = widened f.second (number (i + 1));
  third = widened f.third (number (i + 2));
  fourth = widened f.fourth (number (i + 3));
}

abbrev pub widened_columns : (ℕ → Option Float) → Columns → Columns
widened_columns number all = record {
  first = widened_four number 0 all.first;
  second = widened_four number 4 all.second;
  third = widened_four number 8 all.third;
  fourth = widened_four number 12 all.fourth;
}

-- the extents of the columns, in order
abbrev pub four_listed : Four → List Extent → List Extent
four_listed f rest = f.first ∷ f.second ∷ f.third ∷ f.fourth ∷ rest

abbrev pub listed : Columns → List Extent
listed all =
    four_listed all.first
    (four_listed all.second (four_listed all.third (four_listed all.fourth [])))

-- the checks of what is stated for a column of that extent
abbrev pub extent_checks : Bound → Extent → Float → Checks
extent_checks Least e x =
    Condition (least_is e x) MinMismatch & Condition (not (lt e.least x)) ElementOutOfMinBound
extent_checks Greatest e x =
    Condition (greatest_is e x) MaxMismatch
    & Condition (not (lt x e.greatest)) ElementOutOfMaxBound

abbrev pub value_checks : Bound → Checked ComponentType → Extent → Data → Checks
value_checks bound t e d = optional_checks (λ x. extent_checks bound e x) (stated t d)

-- those of column c, where these are the extents of the columns
abbrev pub extents_checks : Bound → Checked ComponentType → List Extent → ℕ → Data → Checks
extents_checks bound t extents c d =
    optional_checks (λ e. value_checks bound t e d) (slice_get extents c)
