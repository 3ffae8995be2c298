-- The texts of reasons why nothing was read or written.
use Rattle.std.specs.Prelude.{ℕ, List, ◌++◌, codes}
use Rattle.gltf_handles.specs.declared.accessor.DataType.{DataType}
use Rattle.gltf_handles.specs.declared.accessor.DataType.TheVariants.{I8, U8, I16, U16, U32, F32}
use Rattle.gltf_handles.specs.declared.accessor.Dimensions.{Dimensions}
use Rattle.gltf_handles.specs.declared.accessor.Dimensions.TheVariants.{Scalar, Vec2, Vec3, Vec4}
use Rattle.gltf_handles.specs.declared.accessor.Dimensions.TheVariants.{Mat2, Mat3, Mat4}
use Rattle.gltf_data.specs.Texts.{text_of}
use Rattle.gltf_access.specs.declared.flat.NotWritten.{NotWritten}
use Rattle.gltf_access.specs.declared.flat.NotWritten.TheVariants.{Unreadable, NoRoom}
use Rattle.gltf_access.specs.declared.not_read.NotRead.{NotRead}
use Rattle.gltf_access.specs.declared.not_read.NotRead.TheVariants as reason

-- the name of a type of components (glTF 2.0, section 3.6.2.2, "Accessor Data Types")
abbrev pub component_text : DataType → List ℕ
component_text I8 = codes "BYTE"
component_text U8 = codes "UNSIGNED_BYTE"
component_text I16 = codes "SHORT"
component_text U16 = codes "UNSIGNED_SHORT"
component_text U32 = codes "UNSIGNED_INT"
component_text F32 = codes "FLOAT"

-- and that of dimensions (section 5.1.6)
abbrev pub shape_text : Dimensions → List ℕ
shape_text Scalar = codes "SCALAR"
shape_text Vec2 = codes "VEC2"
shape_text Vec3 = codes "VEC3"
shape_text Vec4 = codes "VEC4"
shape_text Mat2 = codes "MAT2"
shape_text Mat3 = codes "MAT3"
shape_text Mat4 = codes "MAT4"

abbrev pub not_read_text : NotRead → List ℕ
not_read_text reason.Absent = codes "there is no such member"
not_read_text reason.NoReader = codes "no reader reads this attribute"
not_read_text (reason.Type component dimensions) =
    codes "the standard has no items of type " ++ (shape_text dimensions
    ++ (codes " of " ++ (component_text component ++ codes " here")))
not_read_text (reason.Unreadable why) = text_of why

abbrev pub not_written_text : NotWritten → List ℕ
not_written_text Unreadable = codes "the accessor cannot be read"
not_written_text NoRoom = codes "the items have more bytes than there is room for"
