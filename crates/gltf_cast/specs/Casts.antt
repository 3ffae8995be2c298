-- How a normalized integer (glTF 2.0, section 5.1.4) is cast to a type of another width or sign:
-- the table of the Rust crate `gltf`, which casts by powers of two.
use Rattle.std.specs.Prelude.{ℤ, pos, negsuc, ◌*ℤ◌, int_div}

-- the types of such integers
pub data Whole : Type 0 where
  I8 : Whole
  U8 : Whole
  I16 : Whole
  U16 : Whole

-- a number, or 0 where it is negative
abbrev pub above_zero : ℤ → ℤ
above_zero (pos n) = pos n
above_zero (negsuc n) = pos 0

-- from the first type to the second; a division goes towards zero
abbrev pub cast : Whole → Whole → ℤ → ℤ
cast I8 I8 x = x
cast I8 U8 x = above_zero x *ℤ pos 2
cast I8 I16 x = x *ℤ pos 256
cast I8 U16 x = above_zero x *ℤ pos 512
cast U8 I8 x = int_div x (pos 2)
cast U8 U8 x = x
cast U8 I16 x = x *ℤ pos 128
cast U8 U16 x = x *ℤ pos 256
cast I16 I8 x = int_div x (pos 256)
cast I16 U8 x = int_div (above_zero x) (pos 128)
cast I16 I16 x = x
cast I16 U16 x = above_zero x *ℤ pos 2
cast U16 I8 x = int_div x (pos 512)
cast U16 U8 x = int_div x (pos 256)
cast U16 I16 x = int_div x (pos 2)
cast U16 U16 x = x

-- the least number of a type
abbrev pub least_of : Whole → ℤ
least_of I8 = negsuc 127
least_of U8 = pos 0
least_of I16 = negsuc 32767
least_of U16 = pos 0

-- the greatest number of a type, which stands for 1
abbrev pub greatest_of : Whole → ℤ
greatest_of I8 = pos 127
greatest_of U8 = pos 255
greatest_of I16 = pos 32767
greatest_of U16 = pos 65535
