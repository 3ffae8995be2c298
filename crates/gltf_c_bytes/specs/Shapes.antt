-- The items of accessors as C sees them: their components and sizes (glTF 2.0, section 3.6.2.2).
use Rattle.std.specs.Prelude.{ℕ, Bool, true, false, not, ◌==◌}
use Rattle.gltf_json_geometry.specs.declared.accessor.Accessor.{Accessor}
use Rattle.gltf_json_geometry.specs.declared.accessor.ComponentType.{ComponentType}
use Rattle.gltf_json_geometry.specs.declared.accessor.ComponentType.TheVariants.{I8, U8, I16, U16}
use Rattle.gltf_json_geometry.specs.declared.accessor.ComponentType.TheVariants.{U32, F32}
use Rattle.gltf_json_geometry.specs.declared.accessor.«Type» as accessor
use Rattle.gltf_json_geometry.specs.declared.accessor.«Type».TheVariants.{Scalar, Vec2, Vec3, Vec4}
use Rattle.gltf_json_geometry.specs.declared.accessor.«Type».TheVariants.{Mat2, Mat3, Mat4}
use Rattle.gltf_json_record.specs.declared.validation.Checked.{Checked}
use Rattle.gltf_json_record.specs.declared.validation.Checked.TheVariants.{Invalid, Valid}
use Rattle.gltf_handles.specs.Sizes.{code_of, component_size, data_type, multiplicity, dimensions}

-- the number of a type of components
abbrev pub component_number : ComponentType → ℕ
component_number I8 = 5120
component_number U8 = 5121
component_number I16 = 5122
component_number U16 = 5123
component_number U32 = 5125
component_number F32 = 5126

-- the bytes of a component, and how many an item has
abbrev pub size_of_code : Checked ComponentType → ℕ
size_of_code c = code_of (λ k. component_size (data_type k)) c

abbrev pub many_of_code : Checked accessor.«Type» → ℕ
many_of_code t = code_of (λ k. multiplicity (dimensions k)) t

abbrev pub is_matrix : Checked accessor.«Type» → Bool
is_matrix Invalid = false
is_matrix (Valid Scalar) = false
is_matrix (Valid Vec2) = false
is_matrix (Valid Vec3) = false
is_matrix (Valid Vec4) = false
is_matrix (Valid Mat2) = true
is_matrix (Valid Mat3) = true
is_matrix (Valid Mat4) = true

-- whether an item of that shape has no padding inside, where a component has so many bytes: each
-- column of a matrix begins at a multiple of four bytes (section 3.6.2.4)
abbrev pub is_packed_as : Checked accessor.«Type» → ℕ → Bool
is_packed_as Invalid size = true
is_packed_as (Valid Scalar) size = true
is_packed_as (Valid Vec2) size = true
is_packed_as (Valid Vec3) size = true
is_packed_as (Valid Vec4) size = true
is_packed_as (Valid Mat2) size = not (size == 1)
is_packed_as (Valid Mat3) size = size == 4
is_packed_as (Valid Mat4) size = true

abbrev pub is_packed : Accessor → Bool
is_packed a = is_packed_as a.type_ (size_of_code a.component_type)
