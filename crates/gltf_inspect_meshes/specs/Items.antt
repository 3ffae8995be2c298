-- The bytes of an item (glTF 2.0, section 3.6.2.4).
use Rattle.std.specs.Prelude.{ℕ, ◌+◌, ◌*◌, ◌-◌, ◌==◌, if◌then◌else◌, Bool, nat_le, Option, Some}
use Rattle.std.specs.Prelude.{None}
use Rattle.gltf_json_record.specs.declared.validation.Checked.{Checked}
use Rattle.gltf_json_record.specs.declared.validation.Checked.TheVariants.{Valid, Invalid}
use Rattle.gltf_json_geometry.specs.declared.accessor.ComponentType.{ComponentType}
use Rattle.gltf_json_geometry.specs.declared.accessor.ComponentType.TheVariants.{I8, U8, I16, U16}
use Rattle.gltf_json_geometry.specs.declared.accessor.ComponentType.TheVariants.{U32, F32}
use Rattle.gltf_json_geometry.specs.declared.accessor.Accessor.{Accessor}
use Rattle.gltf_json_geometry.specs.declared.accessor.«Type».{«Type»}
use Rattle.gltf_json_geometry.specs.declared.accessor.«Type».TheVariants.{Scalar, Vec2, Vec3, Vec4}
use Rattle.gltf_json_geometry.specs.declared.accessor.«Type».TheVariants.{Mat2, Mat3, Mat4}

-- the bytes of a component (3.6.2.2), 1 where its code is in no table
abbrev pub component_size : Checked ComponentType → ℕ
component_size Invalid = 1
component_size (Valid I8) = 1
component_size (Valid U8) = 1
component_size (Valid I16) = 2
component_size (Valid U16) = 2
component_size (Valid U32) = 4
component_size (Valid F32) = 4

-- the bytes from item to item, where a component has this many and items are packed: each column of
-- a matrix begins at a multiple of 4; 0 where the code is in no table
abbrev pub item_size : Checked «Type» → ℕ → ℕ
item_size Invalid size = 0
item_size (Valid Scalar) size = size
item_size (Valid Vec2) size = 2 * size
item_size (Valid Vec3) size = 3 * size
item_size (Valid Vec4) size = 4 * size
item_size (Valid Mat2) size = if size == 1 then 8 else 4 * size
item_size (Valid Mat3) size = if size == 1 then 12 else if size == 2 then 24 else 9 * size
item_size (Valid Mat4) size = 16 * size

-- the bytes up to the end of an item's last component: no padding is needed after the last column
abbrev pub last_size : Checked «Type» → ℕ → ℕ
last_size Invalid size = 0
last_size (Valid Scalar) size = size
last_size (Valid Vec2) size = 2 * size
last_size (Valid Vec3) size = 3 * size
last_size (Valid Vec4) size = 4 * size
last_size (Valid Mat2) size = if size == 1 then 6 else 4 * size
last_size (Valid Mat3) size = if size == 1 then 11 else if size == 2 then 22 else 9 * size
last_size (Valid Mat4) size = 16 * size

-- items fit into so many bytes, of which none is looked at where there is no item
abbrev pub fit : ℕ → ℕ → ℕ → ℕ → ℕ → Bool
fit start stride count last len = nat_le (start + stride * (count - 1) + last) len

-- the bytes of a component of the accessor, and from one packed item to the next
abbrev pub size_of : Accessor → ℕ
size_of a = component_size a.component_type

abbrev pub packed : Accessor → ℕ
packed a = item_size a.type_ (size_of a)

-- the bytes from item to item, in the view
abbrev pub stride_in : Accessor → Option ℕ → ℕ
stride_in a None = packed a
stride_in a (Some stride) = stride
