-- The least and the greatest numbers of an accessor, as it states them (glTF 2.0, section 3.6.2.5,
-- "Accessors Bounds").
use Rattle.std.specs.Prelude.{ℕ, ◌+◌, ◌&&◌, ◌||◌, not, if◌then◌else◌, Bool, true, false}
use Rattle.std.specs.Prelude.{List, [], ◌∷◌, codes, take}
use Rattle.std.specs.Prelude.{Option, Some, None, option_map}
use Rattle.std.specs.List.{list_any}
use Rattle.std.specs.Float.{Float, binary32, round_to_format}
use Rattle.serde_json.specs.Data.{Data, Items}
use Rattle.serde_json.specs.Find.{as_array, as_number, to_float}
use Rattle.serde_json.specs.View.{view}
use Rattle.serde_json.specs.declared.value.Value.{Value}
use Rattle.gltf_json_record.specs.Place.{numbered}
use Rattle.gltf_json_record.specs.declared.validation.Checked.{Checked}
use Rattle.gltf_json_record.specs.declared.validation.Checked.TheVariants.{Valid, Invalid}
use Rattle.gltf_json_geometry.specs.declared.accessor.Accessor.{Accessor}
use Rattle.gltf_json_geometry.specs.declared.accessor.ComponentType.{ComponentType}
use Rattle.gltf_json_geometry.specs.declared.accessor.ComponentType.TheVariants.{I8, U8, I16, U16}
use Rattle.gltf_json_geometry.specs.declared.accessor.ComponentType.TheVariants.{F32}
use Rattle.gltf_json_geometry.specs.declared.accessor.«Type» as shape
use Rattle.gltf_numbers.specs.Numbers.{values_of}
use Rattle.gltf_findings.specs.declared.code.Code.TheVariants.{MinMismatch, MaxMismatch}
use Rattle.gltf_findings.specs.declared.code.Code.TheVariants.{ElementOutOfMinBound}
use Rattle.gltf_findings.specs.declared.code.Code.TheVariants.{ElementOutOfMaxBound}
use Rattle.gltf_findings.specs.Checks.{Checks, Nothing, Condition, At, ◌&◌, member, optional_checks}
use Rattle.gltf_inspect_values.specs.Components.{component, is_below, is_above, is_equal}
use Rattle.gltf_inspect_values.specs.declared.bounds.Bound.{Bound}
use Rattle.gltf_inspect_values.specs.declared.bounds.Bound.TheVariants.{Least, Greatest}

-- a number that is stated for components of this type: of floats, as it is rounded to single
-- precision
abbrev pub rounded : Checked ComponentType → Float → Float
rounded (Valid F32) x = round_to_format binary32 x
rounded _ x = x

-- what a value states for them; none where it is no number
abbrev pub stated : Checked ComponentType → Data → Option Float
stated t d = option_map (λ x. rounded t x) (option_map to_float (as_number d))

abbrev pub values_in : Option Items → List Data
values_in None = []
values_in (Some ds) = values_of ds

-- the columns of items: as many as an item has components (section 3.6.2.3, "Accessor Data Types")
abbrev pub column_count : Checked shape.«Type» → ℕ
column_count Invalid = 0
column_count (Valid shape.TheVariants.Scalar) = 1
column_count (Valid shape.TheVariants.Vec2) = 2
column_count (Valid shape.TheVariants.Vec3) = 3
column_count (Valid shape.TheVariants.Vec4) = 4
column_count (Valid shape.TheVariants.Mat2) = 4
column_count (Valid shape.TheVariants.Mat3) = 9
column_count (Valid shape.TheVariants.Mat4) = 16

-- the values of a list, of which each is stated for the column of that number, of so many columns;
-- what stands behind them is stated for none. None of another value
abbrev pub elements : ℕ → Option Value → List Data
elements count None = []
elements count (Some v) = take count (values_in (as_array (view v)))

-- some number in column c of the items is below x; above it; the same
abbrev pub any_below : Checked ComponentType → List (List ℕ) → ℕ → Float → Bool
any_below t items c x = list_any (λ item. is_below x (component t c item)) items

abbrev pub any_above : Checked ComponentType → List (List ℕ) → ℕ → Float → Bool
any_above t items c x = list_any (λ item. is_above x (component t c item)) items

abbrev pub any_equal : Checked ComponentType → List (List ℕ) → ℕ → Float → Bool
any_equal t items c x = list_any (λ item. is_equal x (component t c item)) items

-- x is the least number of the column: none is below, and one is the same. And the greatest
abbrev pub is_least : Checked ComponentType → List (List ℕ) → ℕ → Float → Bool
is_least t items c x = not (any_below t items c x) && any_equal t items c x

abbrev pub is_greatest : Checked ComponentType → List (List ℕ) → ℕ → Float → Bool
is_greatest t items c x = not (any_above t items c x) && any_equal t items c x

-- the checks of what is stated for column c
abbrev pub number_checks : Bound → Checked ComponentType → List (List ℕ) → ℕ → Float → Checks
number_checks Least t items c x =
    Condition (is_least t items c x) MinMismatch
    & Condition (not (any_below t items c x)) ElementOutOfMinBound
number_checks Greatest t items c x =
    Condition (is_greatest t items c x) MaxMismatch
    & Condition (not (any_above t items c x)) ElementOutOfMaxBound

abbrev pub column_checks : Bound → Checked ComponentType → List (List ℕ) → ℕ → Data → Checks
column_checks bound t items c d =
    optional_checks (λ x. number_checks bound t items c x) (stated t d)

-- the elements from index i on, each by its index
abbrev pub each_checks : {T : Type 0} → (ℕ → T → Checks) → ℕ → List T → Checks
each_checks checks i [] = Nothing
each_checks checks i (x ∷ xs) = At (numbered i) (checks i x) & each_checks checks (i + 1) xs

abbrev pub bound_checks : Bound → Checked ComponentType → ℕ → List (List ℕ) → Option Value → Checks
bound_checks bound t count items v =
    each_checks (column_checks bound t items) 0 (elements count v)

-- there are items
abbrev pub has_items : List (List ℕ) → Bool
has_items items = list_any (λ item. true) items

abbrev pub are_bytes : Checked ComponentType → Bool
are_bytes (Valid I8) = true
are_bytes (Valid U8) = true
are_bytes _ = false

abbrev pub are_halves : Checked ComponentType → Bool
are_halves (Valid I16) = true
are_halves (Valid U16) = true
are_halves _ = false

-- "the start address of each column MUST be a multiple of 4 bytes" (section 3.6.2.4): the columns
-- of these matrices are padded
abbrev pub is_padded : Checked ComponentType → Checked shape.«Type» → Bool
is_padded t (Valid shape.TheVariants.Mat2) = are_bytes t
is_padded t (Valid shape.TheVariants.Mat3) = are_bytes t || are_halves t
is_padded t _ = false

-- the bounds of an accessor are looked at where it has items, of which an accessor that cannot be
-- read has none, and where its items have no padding, which readers do not pass over
abbrev pub are_looked_at : Accessor → List (List ℕ) → Bool
are_looked_at a items = not (is_padded a.component_type a.type_) && has_items items

abbrev pub bounds_checks : Accessor → List (List ℕ) → Checks
bounds_checks a items =
    if are_looked_at a items
    then member (codes "min") (bound_checks Least a.component_type (column_count a.type_) items a.min)
    & member (codes "max")
    (bound_checks Greatest a.component_type (column_count a.type_) items a.max)
    else Nothing
