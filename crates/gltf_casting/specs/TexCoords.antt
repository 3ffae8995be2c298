-- Texture coordinates that were read (glTF 2.0, section 3.7.2.1, "Meshes: Overview",
-- `TEXCOORD_n`).
use Rattle.std.specs.Prelude.{ℕ, List, Bool, true, false}
use Rattle.gltf_items.specs.Counted.{CountedItems}
use Rattle.gltf_data.specs.Iter.{counted_items}
use Rattle.gltf_casting.specs.Casting.{cast_each, no_items}
use Rattle.gltf_casting.specs.declared.tex_coords.ReadTexCoords.{ReadTexCoords}
use Rattle.gltf_casting.specs.declared.tex_coords.ReadTexCoords.TheVariants.{U8, U16, F32}

-- they are floats, which are not cast
abbrev pub is_float : ReadTexCoords → Bool
is_float (F32 items) = true
is_float _ = false

-- those that are left, each pair cast by the function for its type
abbrev pub cast_tex_coords : {Y : Type 0} → (List ℕ → Y) → (List ℕ → Y)
    → ReadTexCoords → CountedItems Y
cast_tex_coords of_u8 of_u16 (U8 items) = cast_each of_u8 (counted_items items)
cast_tex_coords of_u8 of_u16 (U16 items) = cast_each of_u16 (counted_items items)
cast_tex_coords of_u8 of_u16 (F32 items) = no_items
