-- What one walk over the items of an accessor finds.
use Rattle.std.specs.Prelude.{◌≡◌, ℕ, ◌&&◌, ◌||◌, not, if◌then◌else◌, Bool, true, false, List}
use Rattle.std.specs.Prelude.{codes}
use Rattle.std.specs.Prelude.{Option}
use Rattle.std.specs.List.{list_any}
use Rattle.std.specs.Float.{Float}
use Rattle.serde_json.specs.declared.value.Value.{Value}
use Rattle.gltf_json_record.specs.declared.validation.Checked.{Checked}
use Rattle.gltf_json_record.specs.declared.validation.Checked.TheVariants.{Valid}
use Rattle.gltf_json_geometry.specs.declared.accessor.Accessor.{Accessor}
use Rattle.gltf_json_geometry.specs.declared.accessor.ComponentType.{ComponentType}
use Rattle.gltf_json_geometry.specs.declared.accessor.ComponentType.TheVariants.{F32}
use Rattle.gltf_findings.specs.Checks.{Checks, Nothing, ◌&◌, member}
use Rattle.gltf_inspect_items.specs.Members.{HaveSameItems}
use Rattle.gltf_inspect_values.specs.Bounds.{each_checks, elements, is_padded}
use Rattle.gltf_inspect_values.specs.Bounds.{column_count}
use Rattle.gltf_inspect_values.specs.Components.{component, has_infinite}
use Rattle.gltf_inspect_values.specs.Extents.{extent, columns, nothing, listed, extents_checks}
use Rattle.gltf_inspect_values.specs.Extents.{widened_columns}
use Rattle.gltf_inspect_values.specs.declared.bounds.Bound.{Bound}
use Rattle.gltf_inspect_values.specs.declared.bounds.Bound.TheVariants.{Least, Greatest}
use Rattle.gltf_inspect_values.specs.declared.extent.Extent.{Extent}
use Rattle.gltf_inspect_values.specs.declared.summary.Summary.{Summary}

-- whether there are items, whether one has an infinite number, and the extent of each column, where
-- numbers are read like that
abbrev pub summary : (ℕ → List ℕ → Option Float) → (List ℕ → Bool) → List (List ℕ) → Summary
summary number is_infinite items = record {
  exist = list_any (λ item. true) items;
  infinite = list_any is_infinite items;
  columns = columns (λ c. extent (number c) items);
}

-- that of no items
abbrev pub no_items : Summary
no_items = record { exist = false; infinite = false; columns = columns (λ c. nothing) }

-- that of a further item too
abbrev pub with_item : (ℕ → List ℕ → Option Float) → (List ℕ → Bool) → Summary → List ℕ → Summary
with_item number is_infinite found item = record {
  exist = true;
  infinite = found.infinite || is_infinite item;
  columns = widened_columns (λ c. number c item) found.columns;
}

-- that of one item, or of none
abbrev pub first : (ℕ → List ℕ → Option Float) → (List ℕ → Bool) → List ℕ → Bool → Summary
first number is_infinite item true = with_item number is_infinite no_items item
first number is_infinite item false = no_items

-- it is that of items which are the same as these, whatever their order, and however often each
pub record IsSummary (number : ℕ → List ℕ → Option Float) (is_infinite : List ℕ → Bool)
    (items : List (List ℕ)) (found : Summary) : Type 0 where
  pub members : List (List ℕ)
  pub same : HaveSameItems members items
  pub is : found ≡ summary number is_infinite members

-- a float of an item with these bytes is infinite or not a number, where its components are floats
abbrev pub any_infinite : Checked ComponentType → List ℕ → Bool
any_infinite (Valid F32) item = has_infinite item
any_infinite _ item = false

-- that of items with components of this type
abbrev pub summary_of : Checked ComponentType → List (List ℕ) → Summary
summary_of t items = summary (component t) (any_infinite t) items

abbrev pub IsSummaryOf : Checked ComponentType → List (List ℕ) → Summary → Type 0
IsSummaryOf t items found = IsSummary (component t) (any_infinite t) items found

-- the checks of what a member states of them
abbrev pub stated_checks : Bound → Checked ComponentType → ℕ → List Extent → Option Value → Checks
stated_checks bound t count extents v =
    each_checks (extents_checks bound t extents) 0 (elements count v)

-- the checks of both bounds of an accessor whose columns have these extents
abbrev pub both_checks : Accessor → List Extent → Checks
both_checks a extents =
    member (codes "min") (stated_checks Least a.component_type (column_count a.type_) extents a.min)
    & member (codes "max")
    (stated_checks Greatest a.component_type (column_count a.type_) extents a.max)

-- its bounds are looked at, where there are items or not
abbrev pub has_bounds : Accessor → Bool → Bool
has_bounds a exist = not (is_padded a.component_type a.type_) && exist

-- the checks of the bounds of an accessor with these items
abbrev pub found_checks : Accessor → Summary → Checks
found_checks a found =
    if has_bounds a found.exist then both_checks a (listed found.columns) else Nothing
