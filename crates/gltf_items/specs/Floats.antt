-- Numbers of single precision (glTF 2.0, 3.6.2.2 "Accessor Data Types": component type 5126 is the
-- binary32 of IEEE-754; 3.6.1 "Buffers and Buffer Views": the lowest byte stands first).
use Rattle.std.specs.Prelude.{ℕ, List, from_bits, to_bits}
use Rattle.std.specs.Float.{Float, binary32}
use Rattle.byteorder.specs.Endian.{little_number, little_bytes}

-- the number that four bytes spell; all bytes of a NaN spell the one NaN
abbrev pub float_of : List ℕ → Float
float_of bytes = from_bits binary32 (little_number 4 bytes)

-- the bytes of a number; those of the quiet NaN without a sign where it is a NaN
abbrev pub float_bytes : Float → List ℕ
float_bytes number = little_bytes 4 (to_bits binary32 number)
