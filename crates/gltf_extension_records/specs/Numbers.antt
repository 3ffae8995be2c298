-- Numbers and lists of them, as the nearest doubles.
use Rattle.std.specs.Prelude.{ℕ, List, Float}
use Rattle.gltf_json_record.specs.Kind.{Kind}
use Rattle.gltf_json_record.specs.Scalars.{plain}
use Rattle.gltf_numbers.specs.Numbers.{number_of, exactly}

-- a number
abbrev pub number : Kind Float
number = plain number_of (λ x. x)

-- a list of exactly n numbers
abbrev pub numbers : ℕ → Kind (List Float)
numbers n = plain (exactly n) (λ xs. xs)
