-- What is read of the attributes of vertices, as integers (KHR_mesh_quantization).
use Rattle.std.specs.Prelude.{◌≡◌, Bool, true, false, Option, Some, None}
use Rattle.gltf_json_geometry.specs.declared.accessor.Accessor.{Accessor}
use Rattle.gltf_handles.specs.declared.accessor.DataType.{DataType}
use Rattle.gltf_handles.specs.declared.accessor.DataType.TheVariants.{I8, U8, I16, U16}
use Rattle.gltf_handles.specs.declared.accessor.Dimensions.{Dimensions}
use Rattle.gltf_items.specs.declared.item.Item.{Ghosts}
use Rattle.gltf_read.specs.Reading.{Reading, Table, ItemsAs, ComesAs, type_of, dimensions_of}
use Rattle.gltf_quantization.specs.Accepted.{accepts}
use Rattle.gltf_quantization.specs.declared.accepted.QuantizedAttribute.{QuantizedAttribute}
use Rattle.gltf_quantization.specs.declared.integers.Integers.{Integers}
use Rattle.gltf_quantization.specs.declared.integers.Integers.TheVariants as integer
use Rattle.gltf_quantization.specs.declared.quantized.Quantized.{Quantized}

-- whether the extension adds the type of this accessor
abbrev pub accepted_as : QuantizedAttribute → Option Dimensions → Option DataType → Bool → Bool
accepted_as attribute (Some dimensions) (Some data_type) normalized =
    accepts attribute dimensions data_type normalized
accepted_as attribute _ _ normalized = false

abbrev pub is_accepted : QuantizedAttribute → Accessor → Bool
is_accepted attribute x = accepted_as attribute (dimensions_of x) (type_of x) x.normalized

module _ {A B C D : Type 0} {a : Ghosts A} {b : Ghosts B} {c : Ghosts C} {d : Ghosts D} where
  -- integers, by the type of components
  abbrev pub AreIntegersOf : Reading → Option DataType → Option (Integers A B C D a b c d) → Type 0
  AreIntegersOf R (Some I8) result = ItemsAs integer.I8 R result
  AreIntegersOf R (Some U8) result = ItemsAs integer.U8 R result
  AreIntegersOf R (Some I16) result = ItemsAs integer.I16 R result
  AreIntegersOf R (Some U16) result = ItemsAs integer.U16 R result
  AreIntegersOf R _ result = result ≡ None

  abbrev pub AreIntegers : Table (Integers A B C D a b c d)
  AreIntegers R x result = AreIntegersOf R (type_of x) result

  -- where the extension adds the type, the integers and whether they are normalized; else none
  abbrev pub AreQuantizedIf : Bool → Table (Quantized A B C D a b c d)
  AreQuantizedIf true R x result =
      ComesAs (λ read. record { integers = read; normalized = x.normalized }) (AreIntegers R x)
      result
  AreQuantizedIf false R x result = result ≡ None

  abbrev pub AreQuantized : QuantizedAttribute → Table (Quantized A B C D a b c d)
  AreQuantized attribute R x result = AreQuantizedIf (is_accepted attribute x) R x result
