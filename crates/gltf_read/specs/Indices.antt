-- Indices of vertices (glTF 2.0, section 3.7.2.1, "Meshes: Overview", `indices`).
use Rattle.std.specs.Prelude.{◌≡◌, Option, Some, None}
use Rattle.gltf_handles.specs.declared.accessor.DataType.{DataType}
use Rattle.gltf_handles.specs.declared.accessor.DataType.TheVariants.{U8, U16, U32}
use Rattle.gltf_casting.specs.declared.indices.ReadIndices.{ReadIndices}
use Rattle.gltf_casting.specs.declared.indices.ReadIndices.TheVariants as index
use Rattle.gltf_read.specs.Reading.{Reading, Table, ItemsAs, type_of}

-- by the type of components
abbrev pub AreIndicesOf : Reading → Option DataType → Option ReadIndices → Type 0
AreIndicesOf R (Some U8) result = ItemsAs index.U8 R result
AreIndicesOf R (Some U16) result = ItemsAs index.U16 R result
AreIndicesOf R (Some U32) result = ItemsAs index.U32 R result
AreIndicesOf R _ result = result ≡ None

abbrev pub AreIndices : Table ReadIndices
AreIndices R a result = AreIndicesOf R (type_of a) result
