-- Of an accessor whose items no check asks for, nothing is found.
use Rattle.std.proofs.Common.{◌≡◌, ℕ, Bool, true, false, List, refl, sym, ap, ◌∙◌, codes}
use Rattle.std.proofs.Common.{if◌then◌else◌}
use Rattle.std.specs.Prelude.{Option, Some, None, is_some, ◌||◌}
use Rattle.std.specs.List.{list_any}
use Rattle.std.proofs.lemmas.Bool.{true≢false}
use Rattle.serde_json.specs.declared.value.Value.{Value}
use Rattle.gltf_json_record.specs.Place.{Place}
use Rattle.gltf_json_record.specs.declared.validation.Checked.{Checked}
use Rattle.gltf_json_record.specs.declared.validation.Checked.TheVariants.{Invalid, Valid}
use Rattle.gltf_json_geometry.specs.declared.accessor.Accessor.{Accessor}
use Rattle.gltf_json_geometry.specs.declared.accessor.ComponentType.{ComponentType}
use Rattle.gltf_json_geometry.specs.declared.accessor.ComponentType.TheVariants.{I8, U8, I16, U16}
use Rattle.gltf_json_geometry.specs.declared.accessor.ComponentType.TheVariants.{U32, F32}
use Rattle.gltf_findings.specs.declared.code.Code.{Code}
use Rattle.gltf_findings.specs.Checks.{Checks, Nothing, ◌&◌, told_after, member}
use Rattle.gltf_inspect_values.specs.Accessors.{infinite_checks, are_floats, are_asked_for}
use Rattle.gltf_inspect_values.specs.Accessors.{items_checks}
use Rattle.gltf_inspect_values.specs.Bounds.{column_count}
use Rattle.gltf_inspect_values.specs.Bounds.{bound_checks, bounds_checks, are_looked_at}
use Rattle.gltf_inspect_values.specs.Components.{has_infinite}
use Rattle.gltf_inspect_values.specs.declared.bounds.Bound.TheVariants.{Least, Greatest}

not_first : (p q : Bool) → (p || q) ≡ false → p ≡ false
not_first true q h = absurd (true≢false h)
not_first false q h = refl

not_second : (p q : Bool) → (p || q) ≡ false → q ≡ false
not_second true q h = absurd (true≢false h)
not_second false q h = h

no_floats : (t : Checked ComponentType) (infinite : Bool) → are_floats t ≡ false
    → infinite_checks t infinite ≡ Nothing
no_floats Invalid infinite h = refl
no_floats (Valid I8) infinite h = refl
no_floats (Valid U8) infinite h = refl
no_floats (Valid I16) infinite h = refl
no_floats (Valid U16) infinite h = refl
no_floats (Valid U32) infinite h = refl
no_floats (Valid F32) infinite h = absurd (true≢false h)

module _ (found : List (List Place × Code)) (path : List Place) where
  no_bounds : (t : Checked ComponentType) (count : ℕ) (items : List (List ℕ)) (looked : Bool)
      (least greatest : Option Value) → (is_some least || is_some greatest) ≡ false
      → told_after found path (if looked
      then member (codes "min") (bound_checks Least t count items least)
      & member (codes "max") (bound_checks Greatest t count items greatest) else Nothing)
      ≡ found
  no_bounds t count items true None None h = refl
  no_bounds t count items false None None h = refl
  no_bounds t count items looked None (Some v) h = absurd (true≢false h)
  no_bounds t count items looked (Some v) greatest h = absurd (true≢false h)

  pub unasked : (a : Accessor) (items : List (List ℕ)) → are_asked_for a ≡ false
      → found ≡ told_after found path (items_checks a items)
  unasked a items h =
      let stated = is_some a.min || is_some a.max in
      let floats = not_first (are_floats a.component_type) stated h in
      let bounds = not_second (are_floats a.component_type) stated h in
      sym (ap (λ checks. told_after found path (checks & bounds_checks a items))
      (no_floats a.component_type (list_any has_infinite items) floats)
      ∙ no_bounds a.component_type (column_count a.type_) items (are_looked_at a items) a.min a.max
      bounds)
