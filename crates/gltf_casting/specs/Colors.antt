-- Colours that were read (glTF 2.0, section 3.7.2.1, "Meshes: Overview", `COLOR_n`).
use Rattle.std.specs.Prelude.{ℕ, List, Bool, true, false}
use Rattle.gltf_items.specs.Counted.{CountedItems}
use Rattle.gltf_data.specs.Iter.{counted_items}
use Rattle.gltf_casting.specs.Casting.{cast_each, no_items}
use Rattle.gltf_casting.specs.declared.colors.ReadColors.{ReadColors}
use Rattle.gltf_casting.specs.declared.colors.ReadColors.TheVariants.{RgbU8, RgbU16, RgbF32, RgbaU8}
use Rattle.gltf_casting.specs.declared.colors.ReadColors.TheVariants.{RgbaU16, RgbaF32}

-- they are floats, which are not cast
abbrev pub is_float : ReadColors → Bool
is_float (RgbF32 items) = true
is_float (RgbaF32 items) = true
is_float _ = false

-- those that are left, each cast by the function for its components
abbrev pub cast_colors : {Y : Type 0}
    → (List ℕ → Y) → (List ℕ → Y) → (List ℕ → Y) → (List ℕ → Y)
    → ReadColors → CountedItems Y
cast_colors of_rgb_u8 of_rgb_u16 of_rgba_u8 of_rgba_u16 (RgbU8 items) =
    cast_each of_rgb_u8 (counted_items items)
cast_colors of_rgb_u8 of_rgb_u16 of_rgba_u8 of_rgba_u16 (RgbU16 items) =
    cast_each of_rgb_u16 (counted_items items)
cast_colors of_rgb_u8 of_rgb_u16 of_rgba_u8 of_rgba_u16 (RgbF32 items) = no_items
cast_colors of_rgb_u8 of_rgb_u16 of_rgba_u8 of_rgba_u16 (RgbaU8 items) =
    cast_each of_rgba_u8 (counted_items items)
cast_colors of_rgb_u8 of_rgb_u16 of_rgba_u8 of_rgba_u16 (RgbaU16 items) =
    cast_each of_rgba_u16 (counted_items items)
cast_colors of_rgb_u8 of_rgb_u16 of_rgba_u8 of_rgba_u16 (RgbaF32 items) = no_items
