-- Which types KHR_mesh_quantization adds to which attributes.
use Rattle.std.specs.Prelude.{Bool, true, false, not, ◌&&◌}
use Rattle.gltf_handles.specs.declared.accessor.DataType.{DataType}
use Rattle.gltf_handles.specs.declared.accessor.DataType.TheVariants.{I8, U8, I16, U16}
use Rattle.gltf_handles.specs.declared.accessor.Dimensions.{Dimensions}
use Rattle.gltf_handles.specs.declared.accessor.Dimensions.TheVariants.{Vec2, Vec3, Vec4}
use Rattle.gltf_quantization.specs.declared.accepted.QuantizedAttribute.{QuantizedAttribute}
use Rattle.gltf_quantization.specs.declared.accepted.QuantizedAttribute.TheVariants.{
  Position,
  Normal,
  Tangent,
  TexCoord,
  PositionDisplacement,
  NormalDisplacement,
  TangentDisplacement,
}

-- the column "Accessor Type(s)" of both tables
abbrev pub has_dimensions : QuantizedAttribute → Dimensions → Bool
has_dimensions Position Vec3 = true
has_dimensions Normal Vec3 = true
has_dimensions Tangent Vec4 = true
has_dimensions TexCoord Vec2 = true
has_dimensions PositionDisplacement Vec3 = true
has_dimensions NormalDisplacement Vec3 = true
has_dimensions TangentDisplacement Vec3 = true
has_dimensions _ _ = false

-- the column "Component Type(s)": a type, and whether it is normalized
abbrev pub is_added : QuantizedAttribute → DataType → Bool → Bool
-- "Extending Mesh Attributes"; byte, unsigned byte, short and unsigned short, each also normalized
is_added Position I8 normalized = true
is_added Position U8 normalized = true
is_added Position I16 normalized = true
is_added Position U16 normalized = true
-- byte normalized and short normalized
is_added Normal I8 normalized = normalized
is_added Normal I16 normalized = normalized
is_added Tangent I8 normalized = normalized
is_added Tangent I16 normalized = normalized
-- byte and short, each also normalized; unsigned byte and unsigned short, which glTF itself has
-- normalized
is_added TexCoord I8 normalized = true
is_added TexCoord U8 normalized = not normalized
is_added TexCoord I16 normalized = true
is_added TexCoord U16 normalized = not normalized
-- "Extending Morph Target Attributes"; byte and short, each also normalized
is_added PositionDisplacement I8 normalized = true
is_added PositionDisplacement I16 normalized = true
-- byte normalized and short normalized
is_added NormalDisplacement I8 normalized = normalized
is_added NormalDisplacement I16 normalized = normalized
is_added TangentDisplacement I8 normalized = normalized
is_added TangentDisplacement I16 normalized = normalized
is_added _ _ normalized = false

abbrev pub accepts : QuantizedAttribute → Dimensions → DataType → Bool → Bool
accepts attribute dimensions data_type normalized =
    has_dimensions attribute dimensions && is_added attribute data_type normalized
