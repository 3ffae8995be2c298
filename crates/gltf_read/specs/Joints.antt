-- Joints of vertices, four each (glTF 2.0, section 3.7.3.3, "Skinned Mesh Attributes",
-- `JOINTS_n`).
use Rattle.std.specs.Prelude.{◌≡◌, Option, Some, None}
use Rattle.gltf_handles.specs.declared.accessor.DataType.{DataType}
use Rattle.gltf_handles.specs.declared.accessor.DataType.TheVariants.{U8, U16}
use Rattle.gltf_casting.specs.declared.joints.ReadJoints.{ReadJoints}
use Rattle.gltf_casting.specs.declared.joints.ReadJoints.TheVariants as joint
use Rattle.gltf_read.specs.Reading.{Reading, Table, ItemsAs, type_of}

-- by the type of components
abbrev pub AreJointsOf : Reading → Option DataType → Option ReadJoints → Type 0
AreJointsOf R (Some U8) result = ItemsAs joint.U8 R result
AreJointsOf R (Some U16) result = ItemsAs joint.U16 R result
AreJointsOf R _ result = result ≡ None

abbrev pub AreJoints : Table ReadJoints
AreJoints R a result = AreJointsOf R (type_of a) result
