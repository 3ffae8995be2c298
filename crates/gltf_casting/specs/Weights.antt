-- Weights of joints that were read (glTF 2.0, section 3.7.3.3, "Skinned Mesh
-- Attributes", `WEIGHTS_n`).
use Rattle.std.specs.Prelude.{ℕ, List, Bool, true, false}
use Rattle.gltf_items.specs.Counted.{CountedItems}
use Rattle.gltf_data.specs.Iter.{counted_items}
use Rattle.gltf_casting.specs.Casting.{cast_each, no_items}
use Rattle.gltf_casting.specs.declared.weights.ReadWeights.{ReadWeights}
use Rattle.gltf_casting.specs.declared.weights.ReadWeights.TheVariants.{U8, U16, F32}

-- they are floats, which are not cast
abbrev pub is_float : ReadWeights → Bool
is_float (F32 items) = true
is_float _ = false

-- those that are left, each four cast by the function for their type
abbrev pub cast_weights : {Y : Type 0} → (List ℕ → Y) → (List ℕ → Y)
    → ReadWeights → CountedItems Y
cast_weights of_u8 of_u16 (U8 items) = cast_each of_u8 (counted_items items)
cast_weights of_u8 of_u16 (U16 items) = cast_each of_u16 (counted_items items)
cast_weights of_u8 of_u16 (F32 items) = no_items
