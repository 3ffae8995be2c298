-- Indices of vertices that were read (glTF 2.0, section 3.7.2.1, "Meshes: Overview", `indices`).
use Rattle.std.specs.Prelude.{ℕ}
use Rattle.gltf_items.specs.Counted.{CountedItems}
use Rattle.gltf_data.specs.Iter.{counted_items}
use Rattle.gltf_casting.specs.Casting.{cast_each}
use Rattle.gltf_casting.specs.declared.indices.ReadIndices.{ReadIndices}
use Rattle.gltf_casting.specs.declared.indices.ReadIndices.TheVariants.{U8, U16, U32}

-- those that are left, each cast by the function for its type
abbrev pub cast_indices : {Y : Type 0} → (ℕ → Y) → (ℕ → Y) → (ℕ → Y)
    → ReadIndices → CountedItems Y
cast_indices of_u8 of_u16 of_u32 (U8 items) = cast_each of_u8 (counted_items items)
cast_indices of_u8 of_u16 of_u32 (U16 items) = cast_each of_u16 (counted_items items)
cast_indices of_u8 of_u16 of_u32 (U32 items) = cast_each of_u32 (counted_items items)
