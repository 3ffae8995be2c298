-- What is found in some items is found in all lists of the same items.
use Rattle.std.proofs.Common.{◌≡◌, ℕ, ◌+◌, Bool, true, false, ◌&&◌, ◌||◌, List, [], ◌∷◌, ◌++◌}
use Rattle.std.proofs.Common.{map, Option, Some, None, refl, sym, ap, ◌∙◌}
use Rattle.std.specs.Prelude.{slice_get}
use Rattle.std.specs.List.{list_any}
use Rattle.std.proofs.lemmas.Bool.{cond-true}
use Rattle.std.specs.Float.{Float}
use Rattle.serde_json.specs.declared.value.Value.{Value}
use Rattle.gltf_json.specs.declared.root.Root.{Root}
use Rattle.gltf_json_record.specs.Place.{numbered}
use Rattle.gltf_json_record.specs.declared.validation.Checked.{Checked}
use Rattle.gltf_json_geometry.specs.declared.accessor.Accessor.{Accessor}
use Rattle.gltf_json_geometry.specs.declared.accessor.ComponentType.{ComponentType}
use Rattle.gltf_items.specs.Floats.{float_of}
use Rattle.gltf_findings.specs.Checks.{Checks, At, ◌&◌, optional_checks}
use Rattle.gltf_inspect_items.specs.Members.{HaveSameItems, one}
use Rattle.gltf_inspect_items.specs.Reading.{Bytes, items_at}
use Rattle.gltf_inspect_values.specs.Accessors.{infinite_checks, floats_checks}
use Rattle.gltf_inspect_values.specs.Bounds.{stated, elements, each_checks, number_checks}
use Rattle.gltf_inspect_values.specs.Bounds.{column_checks, bound_checks, bounds_checks}
use Rattle.gltf_inspect_values.specs.Bounds.{column_count}
use Rattle.gltf_inspect_values.specs.Components.{component, has_infinite, is_below, is_above}
use Rattle.gltf_inspect_values.specs.Components.{is_equal}
use Rattle.gltf_inspect_values.specs.Summaries.{IsSummaryOf, found_checks}
use Rattle.gltf_inspect_values.specs.Items.{as_bytes}
use Rattle.gltf_inspect_values.specs.Times.{is_negative, are_times, times_of, times}
use Rattle.gltf_inspect_values.specs.declared.bounds.Bound.{Bound}
use Rattle.gltf_inspect_values.specs.declared.bounds.Bound.TheVariants.{Least, Greatest}
use Rattle.gltf_inspect_values.specs.declared.summary.Summary.{Summary}
use Rattle.gltf_inspect_values.proofs.Columns.{of_bounds, of_floats}

each_same : {T : Type 0} (f g : ℕ → T → Checks) (i : ℕ) (xs : List T)
    → ((c : ℕ) (x : T) → f c x ≡ g c x) → each_checks f i xs ≡ each_checks g i xs
each_same f g i [] same = refl
each_same f g i (x ∷ xs) same =
    ap (λ checks. At (numbered i) checks & each_checks f (i + 1) xs) (same i x)
    ∙ ap (λ rest. At (numbered i) (g i x) & rest) (each_same f g (i + 1) xs same)

optional_same : {T : Type 0} (f g : T → Checks) (o : Option T) → ((x : T) → f x ≡ g x)
    → optional_checks f o ≡ optional_checks g o
optional_same f g None same = refl
optional_same f g (Some x) same = same x

any_of_map : (xs : List (List ℕ))
    → list_any is_negative (map float_of xs) ≡ list_any (λ x. is_negative (float_of x)) xs
any_of_map [] = refl
any_of_map (x ∷ xs) = ap (λ b. is_negative (float_of x) || b) (any_of_map xs)

module _ (xs ys : List (List ℕ)) (same : HaveSameItems xs ys) where
  same_number : (bound : Bound) (t : Checked ComponentType) (c : ℕ) (x : Float)
      → number_checks bound t xs c x ≡ number_checks bound t ys c x
  same_number Least t c x =
      rw (
        same.any (λ item. is_below x (component t c item)),
        same.any (λ item. is_equal x (component t c item)),
      ) refl
  same_number Greatest t c x =
      rw (
        same.any (λ item. is_above x (component t c item)),
        same.any (λ item. is_equal x (component t c item)),
      ) refl

  same_bound : (bound : Bound) (t : Checked ComponentType) (count : ℕ) (v : Option Value)
      → bound_checks bound t count xs v ≡ bound_checks bound t count ys v
  same_bound bound t count v =
      each_same (column_checks bound t xs) (column_checks bound t ys) 0 (elements count v)
      (λ c d. optional_same (λ x. number_checks bound t xs c x) (λ x. number_checks bound t ys c x)
      (stated t d) (λ x. same_number bound t c x))

  same_bounds : (a : Accessor) → bounds_checks a xs ≡ bounds_checks a ys
  same_bounds a =
      rw (
        same_bound Least a.component_type (column_count a.type_) a.min,
        same_bound Greatest a.component_type (column_count a.type_) a.max,
        same.any (λ item. true),
      ) refl

  same_floats : (t : Checked ComponentType) → floats_checks t xs ≡ floats_checks t ys
  same_floats t = ap (infinite_checks t) (same.any has_infinite)

  pub negative_same : list_any is_negative (map float_of xs) ≡ list_any is_negative (map float_of ys)
  negative_same =
      any_of_map xs ∙ same.any (λ x. is_negative (float_of x)) ∙ sym (any_of_map ys)

-- what is found decides the checks of the items
pub found_floats : (t : Checked ComponentType) (items : List (List ℕ)) (found : Summary)
    → IsSummaryOf t items found → infinite_checks t found.infinite ≡ floats_checks t items
found_floats t items found f =
    ap (λ (s : Summary). infinite_checks t s.infinite) f.is ∙ of_floats t f.members
    ∙ same_floats f.members items f.same t

pub found_bounds : (a : Accessor) (items : List (List ℕ)) (found : Summary)
    → IsSummaryOf a.component_type items found → found_checks a found ≡ bounds_checks a items
found_bounds a items found f =
    ap (found_checks a) f.is ∙ of_bounds a f.members ∙ same_bounds f.members items f.same a

-- of times: of zero, and of the others
pub negative_of : (z : List ℕ) (zero : Bool) (xs : List (List ℕ))
    → list_any is_negative (map float_of (one z zero ++ xs))
    ≡ ((zero && is_negative (float_of z)) || list_any is_negative (map float_of xs))
negative_of z true xs = refl
negative_of z false xs = refl

pub times_are : (r : Root) (bytes : Bytes) (i : ℕ) (a : Accessor)
    → slice_get r.accessors.items i ≡ Some a → are_times a.component_type a.type_ ≡ true
    → list_any is_negative (map float_of (items_at (as_bytes 4) r bytes i))
    ≡ list_any is_negative (times r bytes i)
times_are r bytes i a here timed =
    ap (list_any is_negative)
    (sym (cond-true (are_times a.component_type a.type_)
    (map float_of (items_at (as_bytes 4) r bytes i)) [] timed)
    ∙ ap (times_of r bytes i) (sym here))
