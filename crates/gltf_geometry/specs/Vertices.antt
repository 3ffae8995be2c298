-- The vertices that a primitive joins, in order (glTF 2.0, section 3.7.2.1: those that the indices
-- name, or without indices those from 0 up to the count of the attributes).
use Rattle.std.specs.Prelude.{ℕ, List, Option, Some, None}
use Rattle.std.specs.List.{range_with_len}
use Rattle.gltf_json_geometry.specs.declared.accessor.ComponentType.{ComponentType}
use Rattle.gltf_json_geometry.specs.declared.accessor.ComponentType.TheVariants as component
use Rattle.gltf_geometry.specs.declared.vertices.Vertices.{Vertices}
use Rattle.gltf_geometry.specs.declared.vertices.Vertices.TheVariants.{Indices, Count}

abbrev pub in_order : Vertices → List ℕ
in_order (Indices indices) = indices.now
in_order (Count count) = range_with_len 0 count

-- "indices accessor MUST NOT contain the maximum possible value for the component type used (i.e.,
-- 255 for unsigned bytes, 65535 for unsigned shorts, 4294967295 for unsigned ints)"
abbrev pub restart_of : ComponentType → Option ℕ
restart_of component.U8 = Some 255
restart_of component.U16 = Some 65535
restart_of component.U32 = Some 4294967295
restart_of _ = None
