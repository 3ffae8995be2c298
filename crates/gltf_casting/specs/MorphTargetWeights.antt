-- Weights of morph targets that were read (glTF 2.0, section 3.11, "Animations").
use Rattle.std.specs.Prelude.{ℕ, ℤ, Bool, true, false}
use Rattle.gltf_items.specs.Counted.{CountedItems}
use Rattle.gltf_data.specs.Iter.{counted_items}
use Rattle.gltf_casting.specs.Casting.{cast_each, no_items}
use Rattle.gltf_casting.specs.declared.morph_target_weights.MorphTargetWeights.{MorphTargetWeights}
use Rattle.gltf_casting.specs.declared.morph_target_weights.MorphTargetWeights.TheVariants.{I8, U8}
use Rattle.gltf_casting.specs.declared.morph_target_weights.MorphTargetWeights.TheVariants.{I16}
use Rattle.gltf_casting.specs.declared.morph_target_weights.MorphTargetWeights.TheVariants.{U16}
use Rattle.gltf_casting.specs.declared.morph_target_weights.MorphTargetWeights.TheVariants.{F32}

-- they are floats, which are not cast
abbrev pub is_float : MorphTargetWeights → Bool
is_float (F32 items) = true
is_float _ = false

-- those that are left, each cast by the function for its type
abbrev pub cast_morph_target_weights : {Y : Type 0}
    → (ℤ → Y) → (ℕ → Y) → (ℤ → Y) → (ℕ → Y)
    → MorphTargetWeights → CountedItems Y
cast_morph_target_weights of_i8 of_u8 of_i16 of_u16 (I8 items) =
    cast_each of_i8 (counted_items items)
cast_morph_target_weights of_i8 of_u8 of_i16 of_u16 (U8 items) =
    cast_each of_u8 (counted_items items)
cast_morph_target_weights of_i8 of_u8 of_i16 of_u16 (I16 items) =
    cast_each of_i16 (counted_items items)
cast_morph_target_weights of_i8 of_u8 of_i16 of_u16 (U16 items) =
    cast_each of_u16 (counted_items items)
cast_morph_target_weights of_i8 of_u8 of_i16 of_u16 (F32 items) = no_items
