-- What a walk has found after a list of further items.
use Rattle.std.proofs.Common.{◌≡◌, ℕ, ◌+◌, Bool, true, false, ◌||◌, List, [], ◌∷◌, ◌++◌, Option, refl, ap}
use Rattle.std.proofs.Common.{◌∙◌}
use Rattle.std.specs.List.{list_any}
use Rattle.std.specs.Float.{Float}
use Rattle.gltf_inspect_values.specs.declared.extent.Four.{Four}
use Rattle.gltf_inspect_values.specs.declared.extent.Columns.{Columns}
use Rattle.gltf_inspect_values.specs.declared.summary.Summary.{Summary}
use Rattle.gltf_inspect_values.specs.Extents.{widened_over}
use Rattle.gltf_inspect_values.specs.Summaries.{summary, no_items, first, with_item}
use Rattle.gltf_inspect_items.specs.Members.{one}

or_more : (a b c : Bool) → ((a || b) || c) ≡ (a || (b || c))
or_more true b c = refl
or_more false b c = refl

module _ {X : Type 0} where
  abbrev any_over : (X → Bool) → Bool → List X → Bool
  any_over is b [] = b
  any_over is b (x ∷ xs) = any_over is (b || is x) xs

  abbrev four_over : (ℕ → X → Option Float) → ℕ → Four → List X → Four
  four_over number i f items = record {
    first = widened_over (number i) f.first items;
    second = widened_over (number (i + 1)) f.second items;
    third = widened_over (number (i + 2)) f.third items;
    fourth = widened_over (number (i + 3)) f.fourth items;
  }

  abbrev columns_over : (ℕ → X → Option Float) → Columns → List X → Columns
  columns_over number all items = record {
    first = four_over number 0 all.first items;
    second = four_over number 4 all.second items;
    third = four_over number 8 all.third items;
    fourth = four_over number 12 all.fourth items;
  }

  abbrev exist_over : Bool → List X → Bool
  exist_over b [] = b
  exist_over b (x ∷ xs) = exist_over true xs

  any_over_is : (is : X → Bool) (b : Bool) (xs : List X) → any_over is b xs ≡ (b || list_any is xs)
  any_over_is is true [] = refl
  any_over_is is false [] = refl
  any_over_is is b (x ∷ xs) =
      any_over_is is (b || is x) xs ∙ or_more b (is x) (list_any is xs)

  exist_over_is : (xs : List X) → exist_over true xs ≡ true
  exist_over_is [] = refl
  exist_over_is (x ∷ xs) = exist_over_is xs

  exist_is : (xs : List X) → exist_over false xs ≡ list_any (λ x. true) xs
  exist_is [] = refl
  exist_is (x ∷ xs) = exist_over_is xs

abbrev pub after : (ℕ → List ℕ → Option Float) → (List ℕ → Bool) → Summary → List (List ℕ) → Summary
after number is_infinite found items = record {
  exist = exist_over found.exist items;
  infinite = any_over is_infinite found.infinite items;
  columns = columns_over number found.columns items;
}

-- after all items it is what is found in them
pub after_all : (number : ℕ → List ℕ → Option Float) (is_infinite : List ℕ → Bool)
    (items : List (List ℕ))
    → after number is_infinite no_items items ≡ summary number is_infinite items
after_all number is_infinite items =
    ap (λ b. record {
      exist = b;
      infinite = any_over is_infinite false items;
      columns = columns_over number no_items.columns items;
    }) (exist_is items)
    ∙ ap (λ b. record {
      exist = list_any (λ x. true) items;
      infinite = b;
      columns = columns_over number no_items.columns items;
    }) (any_over_is is_infinite false items)

-- after an item in front, where there is one, and all items behind it
pub started : (number : ℕ → List ℕ → Option Float) (is_infinite : List ℕ → Bool) (item : List ℕ)
    (some : Bool) (items : List (List ℕ))
    → after number is_infinite (first number is_infinite item some) items
    ≡ summary number is_infinite (one item some ++ items)
started number is_infinite item true items = after_all number is_infinite (item ∷ items)
started number is_infinite item false items = after_all number is_infinite items

-- such an item in front, or none
pub first_some : (number : ℕ → List ℕ → Option Float) (is_infinite : List ℕ → Bool)
    (item : List ℕ) (some : Bool) → some ≡ true
    → first number is_infinite item some ≡ with_item number is_infinite no_items item
first_some number is_infinite item some is = ap (first number is_infinite item) is

pub first_none : (number : ℕ → List ℕ → Option Float) (is_infinite : List ℕ → Bool)
    (item : List ℕ) (some : Bool) → some ≡ false → first number is_infinite item some ≡ no_items
first_none number is_infinite item some is = ap (first number is_infinite item) is
