-- The components of an item, and the numbers that they are (glTF 2.0, section 3.6.2.2, "Accessor
-- Data Types", and 3.6.2.4, "Data Alignment").
use Rattle.std.specs.Prelude.{ℕ, ◌+◌, ◌*◌, ◌%◌, ◌==◌, ◌&&◌, ◌||◌, nat_le, if◌then◌else◌, Bool}
use Rattle.std.specs.Prelude.{false, List, ◌∷◌, length, drop, take, pos}
use Rattle.std.specs.Prelude.{Option, Some, None, option_map}
use Rattle.std.specs.Float.{Float, binary64}
use Rattle.std.specs.Float.Ieee.{of_int, lt, eq}
use Rattle.std.specs.Int.{w8, w16, cast_signed}
use Rattle.byteorder.specs.Endian.{little_number}
use Rattle.gltf_json_record.specs.declared.validation.Checked.{Checked}
use Rattle.gltf_json_record.specs.declared.validation.Checked.TheVariants.{Invalid, Valid}
use Rattle.gltf_json_geometry.specs.declared.accessor.ComponentType.{ComponentType}
use Rattle.gltf_json_geometry.specs.declared.accessor.ComponentType.TheVariants.{I8, U8, I16, U16}
use Rattle.gltf_json_geometry.specs.declared.accessor.ComponentType.TheVariants.{U32, F32}
use Rattle.gltf_items.specs.Floats.{float_of}

-- what is spelled by the bytes of component c, where components have n bytes each and the item has
-- so many
abbrev pub at_column : {X : Type 0} → ℕ → (List ℕ → X) → ℕ → List ℕ → Option X
at_column n value c item =
    if nat_le (n * c + n) (length item) then Some (value (drop (n * c) item)) else None

-- the number that component c of an item is, where what its bytes spell is such a number
abbrev pub number_at : {X : Type 0} → ℕ → (List ℕ → X) → (X → Float) → ℕ → List ℕ → Option Float
number_at n value number c item = option_map number (at_column n value c item)

-- the number that component c of an item is: a whole number of at most four bytes, which is a
-- double exactly, or a float
abbrev pub component : Checked ComponentType → ℕ → List ℕ → Option Float
component Invalid c item = None
component (Valid I8) c item =
    number_at 1 (λ bytes. cast_signed w8 (little_number 1 bytes)) (λ z. of_int binary64 z) c item
component (Valid U8) c item = number_at 1 (little_number 1) (λ n. of_int binary64 (pos n)) c item
component (Valid I16) c item =
    number_at 2 (λ bytes. cast_signed w16 (little_number 2 bytes)) (λ z. of_int binary64 z) c item
component (Valid U16) c item = number_at 2 (little_number 2) (λ n. of_int binary64 (pos n)) c item
component (Valid U32) c item = number_at 4 (little_number 4) (λ n. of_int binary64 (pos n)) c item
component (Valid F32) c item = number_at 4 (take 4) float_of c item

-- a number is there, and is below x; above it; the same, as 0 and -0 are. What is not a number is
-- neither
abbrev pub is_below : Float → Option Float → Bool
is_below x None = false
is_below x (Some found) = lt found x

abbrev pub is_above : Float → Option Float → Bool
is_above x None = false
is_above x (Some found) = lt x found

abbrev pub is_equal : Float → Option Float → Bool
is_equal x None = false
is_equal x (Some found) = eq found x

-- the exponent of a float is all ones: eight bits, of which the first seven stand behind the sign
-- in the fourth byte, and the last one is the highest of the third
abbrev pub is_infinite : ℕ → ℕ → Bool
is_infinite third fourth = nat_le 128 third && fourth % 128 == 127

-- a float of these bytes is so: it is infinite or not a number
abbrev pub has_infinite : List ℕ → Bool
has_infinite (a ∷ b ∷ c ∷ d ∷ rest) = is_infinite c d || has_infinite rest
has_infinite _ = false
