-- Ranges of accessors: two are the same exactly where the accessors read the same.
use Rattle.std.specs.Prelude.{ℕ, Option, Some, None, unwrap_or}
use Rattle.std.specs.Ordering.{nat_cmp, ordering_then}
use Rattle.std.specs.declared.cmp.Ordering.{Ordering}
use Rattle.gltf_json_record.specs.declared.validation.Checked.{Checked}
use Rattle.gltf_json_record.specs.declared.validation.Checked.TheVariants.{Invalid, Valid}
use Rattle.gltf_json_geometry.specs.declared.accessor.Accessor.{Accessor}
use Rattle.gltf_json_geometry.specs.declared.accessor.ComponentType.{ComponentType}
use Rattle.gltf_json_geometry.specs.declared.accessor.ComponentType.TheVariants.{I8, U8, I16, U16}
use Rattle.gltf_json_geometry.specs.declared.accessor.ComponentType.TheVariants.{U32, F32}
use Rattle.gltf_json_geometry.specs.declared.accessor.«Type» as shape
use Rattle.gltf_json_geometry.specs.declared.accessor.sparse.Sparse.{Sparse}
use Rattle.gltf_ranges.specs.declared.range.Range.{Range}

-- a number for each type of components, and for each type of items
abbrev pub component_number : Checked ComponentType → ℕ
component_number Invalid = 0
component_number (Valid I8) = 1
component_number (Valid U8) = 2
component_number (Valid I16) = 3
component_number (Valid U16) = 4
component_number (Valid U32) = 5
component_number (Valid F32) = 6

abbrev pub shape_number : Checked shape.«Type» → ℕ
shape_number Invalid = 0
shape_number (Valid shape.TheVariants.Scalar) = 1
shape_number (Valid shape.TheVariants.Vec2) = 2
shape_number (Valid shape.TheVariants.Vec3) = 3
shape_number (Valid shape.TheVariants.Vec4) = 4
shape_number (Valid shape.TheVariants.Mat2) = 5
shape_number (Valid shape.TheVariants.Mat3) = 6
shape_number (Valid shape.TheVariants.Mat4) = 7

-- the range of accessor i alone
abbrev pub alone : ℕ → Range
alone i = record { own = 1; view = i; offset = 0; count = 0; component = 0; shape = 0 }

-- that of the items of a in a view
abbrev pub plain : ℕ → Accessor → Range
plain view a = record {
  own = 0;
  view = view;
  offset = unwrap_or a.byte_offset 0;
  count = a.count;
  component = component_number a.component_type;
  shape = shape_number a.type_;
}

abbrev pub range_in : ℕ → Accessor → Option ℕ → Option Sparse → Range
range_in i a None s = alone i
range_in i a (Some view) (Some s) = alone i
range_in i a (Some view) None = plain view a

-- that of accessor i, which is a
abbrev pub range_of : ℕ → Accessor → Range
range_of i a = range_in i a a.buffer_view a.sparse

-- by one number after the other
abbrev pub range_cmp : Range → Range → Ordering
range_cmp a b =
    ordering_then (nat_cmp a.own b.own) (ordering_then (nat_cmp a.view b.view)
    (ordering_then (nat_cmp a.offset b.offset) (ordering_then (nat_cmp a.count b.count)
    (ordering_then (nat_cmp a.component b.component) (nat_cmp a.shape b.shape)))))
