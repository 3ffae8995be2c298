-- Joints of vertices that were read (glTF 2.0, section 3.7.3.3, "Skinned Mesh
-- Attributes", `JOINTS_n`).
use Rattle.std.specs.Prelude.{ℕ, List}
use Rattle.gltf_items.specs.Counted.{CountedItems}
use Rattle.gltf_data.specs.Iter.{counted_items}
use Rattle.gltf_casting.specs.Casting.{cast_each}
use Rattle.gltf_casting.specs.declared.joints.ReadJoints.{ReadJoints}
use Rattle.gltf_casting.specs.declared.joints.ReadJoints.TheVariants.{U8, U16}

-- those that are left, each four cast by the function for their type
abbrev pub cast_joints : {Y : Type 0} → (List ℕ → Y) → (List ℕ → Y)
    → ReadJoints → CountedItems Y
cast_joints of_u8 of_u16 (U8 items) = cast_each of_u8 (counted_items items)
cast_joints of_u8 of_u16 (U16 items) = cast_each of_u16 (counted_items items)
