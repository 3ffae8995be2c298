-- The box that the positions of a primitive are in.
use Rattle.std.specs.Prelude.{Bool, ◌&&◌, if◌then◌else◌, List, [], ◌∷◌, map, slice_get, is_some}
use Rattle.std.specs.Prelude.{Option, Some, None}
use Rattle.std.specs.BTreeMap.{get_by}
use Rattle.std.specs.Borrow.{Bor}
use Rattle.std.specs.Option.{option_and_then, option_map}
use Rattle.serde_json.specs.Data.{Data, Items, no_items, item}
use Rattle.serde_json.specs.Find.{as_array, as_number}
use Rattle.serde_json.specs.View.{view}
use Rattle.serde_json.specs.declared.value.Value.{Value}
use Rattle.gltf_json_geometry.specs.Semantics.{semantic_cmp}
use Rattle.gltf_json_geometry.specs.declared.accessor.Accessor.{Accessor as AccessorRecord}
use Rattle.gltf_json_geometry.specs.declared.mesh.Primitive.{Primitive as PrimitiveRecord}
use Rattle.gltf_json_geometry.specs.declared.semantic.Semantic.TheVariants.{Positions}
use Rattle.gltf_handles.specs.Handle.{Handle}
use Rattle.gltf_scene.specs.declared.mesh.bounds.Bounds.{Bounds}

abbrev pub is_number : Data → Bool
is_number d = is_some (as_number d)

-- the numbers of a list of three numbers
abbrev pub three_items : Option Items → Option (List Data)
three_items (Some (item x (item y (item z no_items)))) =
    if is_number x && is_number y && is_number z then Some (x ∷ y ∷ z ∷ []) else None
three_items _ = None

abbrev pub three_numbers : Data → Option (List Data)
three_numbers d = three_items (as_array d)

-- the two corners of a box: the least and the greatest numbers
pub record Corners : Type 0 where
  pub least : List Data
  pub greatest : List Data

-- what a box shows
abbrev pub corners : Bounds (List (Bor Value)) → Corners
corners b = record {
  least = map (λ v. view v.now) b.min;
  greatest = map (λ v. view v.now) b.max;
}

-- the corner that a member states, where it is a list of three numbers
abbrev pub corner : Option Value → Option (List Data)
corner member = option_and_then (λ v. three_numbers (view v)) member

-- the box that an accessor states by `min` and `max` (glTF 2.0, section 3.6.2.5, "Accessors
-- Bounds"), where both are such lists
abbrev pub box_of : AccessorRecord → Option Corners
box_of a =
    option_and_then (λ least. option_map
    (λ greatest. record { least = least; greatest = greatest })
    (corner a.max)) (corner a.min)

-- the accessor of the positions of a primitive (glTF 2.0, section 3.7.2.1), where it has one
abbrev pub positions_of : Handle PrimitiveRecord → Option AccessorRecord
positions_of p =
    option_and_then (slice_get p.document.accessors.items)
    (get_by (semantic_cmp Positions) p.json.attributes)

-- the box that the accessor of the positions states
abbrev pub stated_box : Handle PrimitiveRecord → Option Corners
stated_box p = option_and_then box_of (positions_of p)
