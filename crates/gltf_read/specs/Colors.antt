-- Colours of vertices (glTF 2.0, section 3.7.2.1, "Meshes: Overview", `COLOR_n`).
use Rattle.std.specs.Prelude.{◌≡◌, Option, Some, None}
use Rattle.gltf_handles.specs.declared.accessor.DataType.{DataType}
use Rattle.gltf_handles.specs.declared.accessor.DataType.TheVariants.{U8, U16, F32}
use Rattle.gltf_handles.specs.declared.accessor.Dimensions.{Dimensions}
use Rattle.gltf_handles.specs.declared.accessor.Dimensions.TheVariants.{Vec3, Vec4}
use Rattle.gltf_casting.specs.declared.colors.ReadColors.{ReadColors}
use Rattle.gltf_casting.specs.declared.colors.ReadColors.TheVariants.{RgbU8, RgbU16, RgbF32}
use Rattle.gltf_casting.specs.declared.colors.ReadColors.TheVariants.{RgbaU8, RgbaU16, RgbaF32}
use Rattle.gltf_read.specs.Reading.{Reading, Table, ItemsAs, type_of, dimensions_of}

-- red, green and blue, by the type of components
abbrev pub AreRgb : Reading → Option DataType → Option ReadColors → Type 0
AreRgb R (Some U8) result = ItemsAs RgbU8 R result
AreRgb R (Some U16) result = ItemsAs RgbU16 R result
AreRgb R (Some F32) result = ItemsAs RgbF32 R result
AreRgb R _ result = result ≡ None

-- red, green, blue and alpha
abbrev pub AreRgba : Reading → Option DataType → Option ReadColors → Type 0
AreRgba R (Some U8) result = ItemsAs RgbaU8 R result
AreRgba R (Some U16) result = ItemsAs RgbaU16 R result
AreRgba R (Some F32) result = ItemsAs RgbaF32 R result
AreRgba R _ result = result ≡ None

-- by the dimensions, and then by the type of components
abbrev pub AreColorsOf : Reading → Option Dimensions → Option DataType → Option ReadColors → Type 0
AreColorsOf R (Some Vec3) type result = AreRgb R type result
AreColorsOf R (Some Vec4) type result = AreRgba R type result
AreColorsOf R _ type result = result ≡ None

abbrev pub AreColors : Table ReadColors
AreColors R a result = AreColorsOf R (dimensions_of a) (type_of a) result
