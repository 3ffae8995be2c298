-- How many items an accessor has that can be read.
use Rattle.std.proofs.Common.{◌≡◌, ℕ, List, length, ap, refl, ◌∙◌}
use Rattle.std.specs.Prelude.{Option, Some, None, unwrap_or, option_and_then}
use Rattle.std.specs.Option.{option_map}
use Rattle.std.proofs.lemmas.List.FromFn.{length-map-range_with_len}
use Rattle.gltf_json.specs.declared.root.Root.{Root}
use Rattle.gltf_json_geometry.specs.declared.accessor.Accessor.{Accessor}
use Rattle.gltf_json_geometry.specs.declared.accessor.sparse.Sparse.{Sparse}
use Rattle.gltf_items.specs.declared.item.Item.{Ghosts}
use Rattle.gltf_json_geometry.specs.declared.buffer.View.{View}
use Rattle.gltf_items.specs.Sparse.{sparse, total}
use Rattle.gltf_data.specs.Parts.{Part, part_of, Answers, FitsIn, PartReadable, BaseReadable}
use Rattle.gltf_data.specs.Parts.{PartsReadable, addressed, items_in, part_items, base_items}
use Rattle.gltf_data.specs.Parts.{view_at, items_with}
use Rattle.gltf_data.specs.Answers.{Results, Reads}

in_count : {X : Type 0} (value : List ℕ → X) (p : Part) (bytes : Option (List ℕ)) → FitsIn p bytes
    → length (items_in value p bytes) ≡ p.count
unfolding addressed
in_count value p None fits = absurd fits
in_count value p (Some bytes) fits = length-map-range_with_len _ 0 p.count

module _ {X : Type 0} (value : List ℕ → X) (o n size : ℕ) (bytes : Option (List ℕ)) where
  of_part : (v : Option View) → PartReadable (option_map (λ v. part_of v o n size) v) bytes
      → length (part_items value (option_map (λ v. part_of v o n size) v) bytes) ≡ n
  of_part None readable = absurd readable
  of_part (Some v) readable = in_count value (part_of v o n size) bytes readable

  of_base : (v : Option View) → BaseReadable n (option_map (λ v. part_of v o n size) v) bytes
      → total (base_items value (option_map (λ v. part_of v o n size) v) bytes) n ≡ n
  of_base None readable = refl
  of_base (Some v) readable = in_count value (part_of v o n size) bytes readable

of_parts : {X : Type 0} (t : Ghosts X) (r : Root) (a : Accessor) (s : Option Sparse) (o : Answers)
    → PartsReadable t.size r a s o → length (items_with t r a s o) ≡ a.count
unfolding sparse
of_parts t r a None o readable =
    of_part t.value (unwrap_or a.byte_offset 0) a.count t.size o.base
    (option_and_then (view_at r) a.buffer_view) readable
of_parts t r a (Some s) o readable =
    length-map-range_with_len _ 0 _
    ∙ of_base t.value (unwrap_or a.byte_offset 0) a.count t.size o.base
    (option_and_then (view_at r) a.buffer_view) readable.base

-- what was read of an accessor has its count of items
pub count_of : {X : Type 0} {Gives : Results} (t : Ghosts X) (r : Root) (a : Accessor) (xs : List X)
    → Reads Gives t r a (Some xs) → length xs ≡ a.count
count_of t r a xs reads =
    ap (λ (l : List _). length l) reads.exactly.1
    ∙ of_parts t r a a.sparse reads.answers reads.exactly.0.parts
