-- What is read of the attributes of instances (the extension EXT_mesh_gpu_instancing, its table
-- "Attributes": translations and scales are VEC3 of floats, rotations are VEC4 of floats, or of
-- normalized bytes or shorts).
use Rattle.std.specs.Prelude.{◌≡◌, Bool, true, false, Option, Some, None}
use Rattle.gltf_json_geometry.specs.declared.accessor.Accessor.{Accessor}
use Rattle.gltf_handles.specs.declared.accessor.DataType.{DataType}
use Rattle.gltf_handles.specs.declared.accessor.DataType.TheVariants.{I8, I16, F32}
use Rattle.gltf_handles.specs.declared.accessor.Dimensions.{Dimensions}
use Rattle.gltf_handles.specs.declared.accessor.Dimensions.TheVariants.{Vec3, Vec4}
use Rattle.gltf_items.specs.declared.item.Item.{Ghosts}
use Rattle.gltf_data.specs.declared.accessor_iter.Iter.{Iter}
use Rattle.gltf_read.specs.Reading.{Reading, Table, AreItems, ItemsAs, type_of, dimensions_of}
use Rattle.gltf_instancing.specs.declared.rotations.Rotations.{Rotations}
use Rattle.gltf_instancing.specs.declared.rotations.Rotations.TheVariants as rotation

-- three floats
abbrev pub is_vector : Dimensions → DataType → Bool
is_vector Vec3 F32 = true
is_vector _ _ = false

abbrev pub are_vectors_of : Option Dimensions → Option DataType → Bool
are_vectors_of (Some dimensions) (Some data_type) = is_vector dimensions data_type
are_vectors_of _ _ = false

abbrev pub are_vectors : Accessor → Bool
are_vectors a = are_vectors_of (dimensions_of a) (type_of a)

-- four numbers of a type that rotations have
abbrev pub as_rotation : Dimensions → DataType → Bool → Option DataType
as_rotation Vec4 I8 true = Some I8
as_rotation Vec4 I16 true = Some I16
as_rotation Vec4 F32 normalized = Some F32
as_rotation _ _ normalized = None

abbrev pub rotation_type_of : Option Dimensions → Option DataType → Bool → Option DataType
rotation_type_of (Some dimensions) (Some data_type) normalized =
    as_rotation dimensions data_type normalized
rotation_type_of _ _ normalized = None

abbrev pub rotation_type : Accessor → Option DataType
rotation_type a = rotation_type_of (dimensions_of a) (type_of a) a.normalized

-- ---- tables

module _ {X : Type 0} {t : Ghosts X} where
  abbrev pub AreVectorsIf : Bool → Table (Iter X t)
  AreVectorsIf true R a result = AreItems R a result
  AreVectorsIf false R a result = result ≡ None

  abbrev pub AreVectors : Table (Iter X t)
  AreVectors R a result = AreVectorsIf (are_vectors a) R a result

abbrev pub AreRotationsOf : Reading → Option DataType → Option Rotations → Type 0
AreRotationsOf R (Some I8) result = ItemsAs rotation.I8 R result
AreRotationsOf R (Some I16) result = ItemsAs rotation.I16 R result
AreRotationsOf R (Some F32) result = ItemsAs rotation.F32 R result
AreRotationsOf R _ result = result ≡ None

abbrev pub AreRotations : Table Rotations
AreRotations R a result = AreRotationsOf R (rotation_type a) result
