-- The checks of bounds by the extents of the columns are those by the items.
use Rattle.std.proofs.Common.{◌≡◌, ◌<◌, ◌≤◌, ℕ, zero, suc, ◌+◌, true, false, not, List, [], ◌∷◌}
use Rattle.std.proofs.Common.{length, refl, ap, sym, ◌∙◌, Option, Some, None, arith}
use Rattle.std.specs.Prelude.{slice_get}
use Rattle.std.specs.List.{list_any}
use Rattle.std.proofs.lemmas.List.{length-take}
use Rattle.std.specs.Float.{Float}
use Rattle.std.specs.Float.Ieee.{lt}
use Rattle.serde_json.specs.Data.{Data}
use Rattle.serde_json.specs.Find.{as_array}
use Rattle.serde_json.specs.View.{view}
use Rattle.serde_json.specs.declared.value.Value.{Value}
use Rattle.gltf_json_record.specs.Place.{numbered}
use Rattle.gltf_json_record.specs.declared.validation.Checked.{Checked}
use Rattle.gltf_json_record.specs.declared.validation.Checked.TheVariants.{Invalid, Valid}
use Rattle.gltf_json_geometry.specs.declared.accessor.Accessor.{Accessor}
use Rattle.gltf_json_geometry.specs.declared.accessor.ComponentType.{ComponentType}
use Rattle.gltf_json_geometry.specs.declared.accessor.ComponentType.TheVariants as code
use Rattle.gltf_json_geometry.specs.declared.accessor.«Type» as shape
use Rattle.gltf_findings.specs.declared.code.Code.TheVariants.{MinMismatch, MaxMismatch}
use Rattle.gltf_findings.specs.declared.code.Code.TheVariants.{ElementOutOfMinBound}
use Rattle.gltf_findings.specs.declared.code.Code.TheVariants.{ElementOutOfMaxBound}
use Rattle.gltf_findings.specs.Checks.{Checks, Condition, At, ◌&◌, optional_checks}
use Rattle.gltf_inspect_values.specs.Accessors.{infinite_checks, floats_checks}
use Rattle.gltf_inspect_values.specs.Bounds.{stated, elements, values_in, each_checks}
use Rattle.gltf_inspect_values.specs.Bounds.{number_checks, column_count}
use Rattle.gltf_inspect_values.specs.Bounds.{is_least, is_greatest, column_checks}
use Rattle.gltf_inspect_values.specs.Bounds.{bound_checks, bounds_checks}
use Rattle.gltf_inspect_values.specs.Components.{component}
use Rattle.gltf_inspect_values.specs.Extents.{extent, widened_over, nothing, columns, four}
use Rattle.gltf_inspect_values.specs.Extents.{extent_checks, value_checks, extents_checks}
use Rattle.gltf_inspect_values.specs.Extents.{four_listed, listed}
use Rattle.gltf_inspect_values.specs.Summaries.{any_infinite, summary_of, no_items, stated_checks}
use Rattle.gltf_inspect_values.specs.Summaries.{found_checks}
use Rattle.gltf_inspect_values.specs.declared.bounds.Bound.{Bound}
use Rattle.gltf_inspect_values.specs.declared.bounds.Bound.TheVariants.{Least, Greatest}
use Rattle.gltf_inspect_values.specs.declared.extent.Extent.{Extent}
use Rattle.gltf_inspect_values.proofs.Extremes.{least_tells, least_is_tells, greatest_tells}
use Rattle.gltf_inspect_values.proofs.Extremes.{greatest_is_tells}

-- what is stated for a column
of_extent : (bound : Bound) (t : Checked ComponentType) (items : List (List ℕ)) (c : ℕ) (x : Float)
    → extent_checks bound (extent (component t c) items) x ≡ number_checks bound t items c x
of_extent Least t items c x =
    ap (λ least. Condition least MinMismatch
    & Condition (not (lt (extent (component t c) items).least x)) ElementOutOfMinBound)
    (least_is_tells (component t c) items x)
    ∙ ap (λ below. Condition (is_least t items c x) MinMismatch
    & Condition (not below) ElementOutOfMinBound)
    (least_tells (component t c) items x)
of_extent Greatest t items c x =
    ap (λ greatest. Condition greatest MaxMismatch
    & Condition (not (lt x (extent (component t c) items).greatest)) ElementOutOfMaxBound)
    (greatest_is_tells (component t c) items x)
    ∙ ap (λ above. Condition (is_greatest t items c x) MaxMismatch
    & Condition (not above) ElementOutOfMaxBound)
    (greatest_tells (component t c) items x)

of_optional : (checks others : Float → Checks) (o : Option Float)
    → ((x : Float) → checks x ≡ others x) → optional_checks checks o ≡ optional_checks others o
of_optional checks others None same = refl
of_optional checks others (Some x) same = same x

-- the extent of a column stands at its index: of one from the eighth on, so many after that one
later : (f : ℕ → Extent) (k : ℕ) → k < 8
    → slice_get (four_listed (four f 8) (four_listed (four f 12) [])) k
    ≡ Some (f (suc (suc (suc (suc (suc (suc (suc (suc k)))))))))
later f zero h = refl
later f (suc zero) h = refl
later f (suc (suc zero)) h = refl
later f (suc (suc (suc zero))) h = refl
later f (suc (suc (suc (suc zero)))) h = refl
later f (suc (suc (suc (suc (suc zero))))) h = refl
later f (suc (suc (suc (suc (suc (suc zero)))))) h = refl
later f (suc (suc (suc (suc (suc (suc (suc zero))))))) h = refl
later f (suc (suc (suc (suc (suc (suc (suc (suc k)))))))) h = absurd (omega (arith, h))

at_index : (f : ℕ → Extent) (c : ℕ) → c < 16 → slice_get (listed (columns f)) c ≡ Some (f c)
at_index f zero h = refl
at_index f (suc zero) h = refl
at_index f (suc (suc zero)) h = refl
at_index f (suc (suc (suc zero))) h = refl
at_index f (suc (suc (suc (suc zero)))) h = refl
at_index f (suc (suc (suc (suc (suc zero))))) h = refl
at_index f (suc (suc (suc (suc (suc (suc zero)))))) h = refl
at_index f (suc (suc (suc (suc (suc (suc (suc zero))))))) h = refl
at_index f (suc (suc (suc (suc (suc (suc (suc (suc k)))))))) h =
    later f k (omega (arith, h))

of_column : (bound : Bound) (t : Checked ComponentType) (items : List (List ℕ)) (c : ℕ) (d : Data)
    → c < 16 → extents_checks bound t (listed (summary_of t items).columns) c d
    ≡ column_checks bound t items c d
of_column bound t items c d h =
    ap (λ o. optional_checks (λ e. value_checks bound t e d) o)
    (at_index (λ k. extent (component t k) items) c h)
    ∙ of_optional (λ x. extent_checks bound (extent (component t c) items) x)
    (λ x. number_checks bound t items c x) (stated t d) (λ x. of_extent bound t items c x)

-- of each of the first sixteen elements
of_each : (f g : ℕ → Data → Checks) (i : ℕ) (ds : List Data) → i + length ds ≤ 16
    → ((c : ℕ) (d : Data) → c < 16 → f c d ≡ g c d) → each_checks f i ds ≡ each_checks g i ds
of_each f g i [] h same = refl
of_each f g i (d ∷ ds) h same =
    ap (λ checks. At (numbered i) checks & each_checks f (i + 1) ds) (same i d (omega (arith, h)))
    ∙ ap (λ rest. At (numbered i) (g i d) & rest) (of_each f g (i + 1) ds (omega (arith, h)) same)

few : (count : ℕ) (v : Option Value) → count ≤ 16 → 0 + length (elements count v) ≤ 16
few count None h = omega arith
few count (Some v) h = omega (arith, h, length-take count (values_in (as_array (view v))))

few_columns : (s : Checked shape.«Type») → column_count s ≤ 16
few_columns Invalid = omega arith
few_columns (Valid shape.TheVariants.Scalar) = omega arith
few_columns (Valid shape.TheVariants.Vec2) = omega arith
few_columns (Valid shape.TheVariants.Vec3) = omega arith
few_columns (Valid shape.TheVariants.Vec4) = omega arith
few_columns (Valid shape.TheVariants.Mat2) = omega arith
few_columns (Valid shape.TheVariants.Mat3) = omega arith
few_columns (Valid shape.TheVariants.Mat4) = omega arith

of_bound : (bound : Bound) (t : Checked ComponentType) (s : Checked shape.«Type»)
    (items : List (List ℕ)) (v : Option Value)
    → stated_checks bound t (column_count s) (listed (summary_of t items).columns) v
    ≡ bound_checks bound t (column_count s) items v
of_bound bound t s items v =
    of_each (extents_checks bound t (listed (summary_of t items).columns))
    (column_checks bound t items) 0 (elements (column_count s) v)
    (few (column_count s) v (few_columns s)) (of_column bound t items)

-- of an accessor
pub of_bounds : (a : Accessor) (items : List (List ℕ))
    → found_checks a (summary_of a.component_type items) ≡ bounds_checks a items
of_bounds a items =
    rw (
      of_bound Least a.component_type a.type_ items a.min,
      of_bound Greatest a.component_type a.type_ items a.max,
    ) refl

pub of_floats : (t : Checked ComponentType) (items : List (List ℕ))
    → infinite_checks t (summary_of t items).infinite ≡ floats_checks t items
of_floats Invalid items = refl
of_floats (Valid code.I8) items = refl
of_floats (Valid code.U8) items = refl
of_floats (Valid code.I16) items = refl
of_floats (Valid code.U16) items = refl
of_floats (Valid code.U32) items = refl
of_floats (Valid code.F32) items = refl

-- where components are no numbers, there is nothing but items
none_infinite : (items : List (List ℕ)) → list_any (λ item. false) items ≡ false
none_infinite [] = refl
none_infinite (item ∷ items) = none_infinite items

none_wider : (e : Extent) (items : List (List ℕ)) → widened_over (λ item. None) e items ≡ e
none_wider e [] = refl
none_wider e (item ∷ items) = none_wider e items

pub no_numbers : (items : List (List ℕ))
    → record no_items { exist = list_any (λ item. true) items } ≡ summary_of Invalid items
no_numbers items =
    ap (λ some. record {
      exist = list_any (λ item. true) items;
      infinite = some;
      columns = columns (λ c. nothing);
    }) (sym (none_infinite items))
    ∙ ap (λ e. record {
      exist = list_any (λ item. true) items;
      infinite = list_any (any_infinite Invalid) items;
      columns = columns (λ c. e);
    }) (sym (none_wider nothing items))
