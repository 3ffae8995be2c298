-- Tables by the type of components, where the dimensions are those that are asked for.
use Rattle.std.specs.Prelude.{◌≡◌, Option, Some, None, MatchOption}
use Rattle.gltf_handles.specs.declared.accessor.DataType.{DataType}
use Rattle.gltf_handles.specs.declared.accessor.DataType.TheVariants.{I8, U8, I16, U16, U32, F32}
use Rattle.gltf_casting.specs.declared.indices.ReadIndices.{ReadIndices}
use Rattle.gltf_read.specs.Indices.{AreIndicesOf}
use Rattle.gltf_read.specs.Kinds.{index_components}
use Rattle.gltf_read.specs.Reading.{Reading}

pub indices_of_kind : (R : Reading) (type : Option DataType) (result : Option ReadIndices)
    → AreIndicesOf R type result
    → MatchOption (index_components type) (result ≡ None) (λ size. AreIndicesOf R type result)
indices_of_kind R (Some U8) result h = h
indices_of_kind R (Some U16) result h = h
indices_of_kind R (Some U32) result h = h
indices_of_kind R _ result h = h
