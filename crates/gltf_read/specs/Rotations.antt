-- Rotations, four numbers each (glTF 2.0, section 3.11, "Animations").
use Rattle.std.specs.Prelude.{◌≡◌, Option, Some, None}
use Rattle.gltf_handles.specs.declared.accessor.DataType.{DataType}
use Rattle.gltf_handles.specs.declared.accessor.DataType.TheVariants.{I8, U8, I16, U16, F32}
use Rattle.gltf_casting.specs.declared.rotations.Rotations.{Rotations}
use Rattle.gltf_casting.specs.declared.rotations.Rotations.TheVariants as rotation
use Rattle.gltf_read.specs.Reading.{Reading, Table, ItemsAs, type_of}

-- by the type of components
abbrev pub AreRotationsOf : Reading → Option DataType → Option Rotations → Type 0
AreRotationsOf R (Some I8) result = ItemsAs rotation.I8 R result
AreRotationsOf R (Some U8) result = ItemsAs rotation.U8 R result
AreRotationsOf R (Some I16) result = ItemsAs rotation.I16 R result
AreRotationsOf R (Some U16) result = ItemsAs rotation.U16 R result
AreRotationsOf R (Some F32) result = ItemsAs rotation.F32 R result
AreRotationsOf R _ result = result ≡ None

abbrev pub AreRotations : Table Rotations
AreRotations R a result = AreRotationsOf R (type_of a) result
