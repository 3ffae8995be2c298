-- Accessors that read the same have the same items.
use Rattle.std.proofs.Common.{◌≡◌, ◌==◌, ◌*◌, ◌∷◌, ℕ, List, Option, Some, None, inl, inr}
use Rattle.std.proofs.Common.{sym, ap, ◌∙◌, option_map, unwrap_or}
use Rattle.std.specs.Prelude.{option_and_then}
use Rattle.gltf_json.specs.declared.root.Root.{Root}
use Rattle.gltf_json_record.specs.declared.validation.Checked.{Checked}
use Rattle.gltf_json_geometry.specs.declared.accessor.Accessor.{Accessor}
use Rattle.gltf_json_geometry.specs.declared.accessor.ComponentType.{ComponentType}
use Rattle.gltf_json_geometry.specs.declared.accessor.«Type» as shape
use Rattle.gltf_json_geometry.specs.declared.accessor.sparse.Sparse.{Sparse}
use Rattle.gltf_json_geometry.specs.declared.buffer.View.{View}
use Rattle.gltf_handles.specs.Sizes.{code_of, component_size, data_type, dimensions, multiplicity}
use Rattle.gltf_handles.specs.Sizes.{item_size}
use Rattle.gltf_items.specs.declared.item.Item.{Ghosts}
use Rattle.gltf_data.specs.Answers.{answer_for, answers_with}
use Rattle.gltf_data.specs.Parts.{Part, part_of, view_at, base_part, items_with, part_items}
use Rattle.gltf_data.specs.Unreadable.{where_all_hold, parts_conditions, viewed_conditions}
use Rattle.gltf_data.specs.declared.unreadable.Part.TheVariants.{Items}
use Rattle.gltf_data.specs.declared.unreadable.Unreadable.TheVariants.{ItemSize}
use Rattle.gltf_ranges.specs.Alike.{AreAlike, ReadTheSame}
use Rattle.gltf_inspect_items.specs.Reading.{Bytes, items_or_none, accessor_items, items_at}

abbrev size_by : Checked ComponentType → Checked shape.«Type» → ℕ
size_by c s =
    code_of (λ k. component_size (data_type k)) c * code_of (λ k. multiplicity (dimensions k)) s

pub same_size : (a b : Accessor) → AreAlike a b → item_size a ≡ item_size b
same_size a b h =
    ap (λ (c : Checked ComponentType). size_by c a.type_) h.component
    ∙ ap (λ (s : Checked shape.«Type»). size_by b.component_type s) h.shape

module _ {X : Type 0} (t : Ghosts X) (r : Root) (bytes : Bytes) where
  -- the items of an accessor by its sparse part
  abbrev items_by : Accessor → Option Sparse → List X
  items_by a s =
      items_or_none (where_all_hold
      ((t.size == item_size a, ItemSize t.size (item_size a))
      ∷ parts_conditions t.size r a s (answers_with bytes t.size r a s))
      (items_with t r a s (answers_with bytes t.size r a s)))

  -- of one without a sparse part, by the size of an item and its part of a view
  abbrev items_of : ℕ → Option Part → List X
  items_of size part =
      items_or_none (where_all_hold
      ((t.size == size, ItemSize t.size size)
      ∷ viewed_conditions Items part (answer_for bytes part))
      (part_items t.value part (answer_for bytes part)))

  whole : (a : Accessor) → a.sparse ≡ None
      → accessor_items t r bytes (Some a) ≡ items_of (item_size a) (base_part t.size r a)
  whole a is = ap (items_by a) is

  abbrev part_by : Option ℕ → ℕ → ℕ → Option Part
  part_by view offset count =
      option_map (λ (v : View). part_of v offset count t.size) (option_and_then (view_at r) view)

  same_part : (a b : Accessor) → AreAlike a b → base_part t.size r a ≡ base_part t.size r b
  same_part a b h =
      ap (λ (v : Option ℕ). part_by v (unwrap_or a.byte_offset 0) a.count)
      (h.in_view ∙ sym h.in_that_view)
      ∙ ap (λ (n : ℕ). part_by b.buffer_view n a.count) h.offset
      ∙ ap (λ (n : ℕ). part_by b.buffer_view (unwrap_or b.byte_offset 0) n) h.count

  alike_items : (a b : Accessor) → AreAlike a b
      → accessor_items t r bytes (Some a) ≡ accessor_items t r bytes (Some b)
  alike_items a b h =
      whole a h.whole
      ∙ ap (λ (n : ℕ). items_of n (base_part t.size r a)) (same_size a b h)
      ∙ ap (λ (p : Option Part). items_of (item_size b) p) (same_part a b h)
      ∙ sym (whole b h.that_whole)

  pub same_items : (i j : ℕ) → ReadTheSame r.accessors.items i j
      → items_at t r bytes i ≡ items_at t r bytes j
  same_items i j (inl one) = ap (λ (k : ℕ). items_at t r bytes k) one
  same_items i j (inr two) =
      ap (accessor_items t r bytes) two.first ∙ alike_items two.a two.b two.alike
      ∙ sym (ap (accessor_items t r bytes) two.second)
