-- How many bytes a buffer has to have (glTF 2.0, section 5.10.2).
use Rattle.std.specs.Prelude.{ℕ, ◌+◌, ◌-◌, ◌%◌, Bool, nat_le, if◌then◌else◌}

-- how many zeros count that are put after so many bytes: those up to a multiple of four, and none
-- where lengths are exact
abbrev pub filled : Bool → ℕ → ℕ
filled exact n = if exact then 0 else (4 - n % 4) % 4

-- whether n bytes are enough for a buffer that declares so many
abbrev pub is_enough : Bool → ℕ → ℕ → Bool
is_enough exact declared n = nat_le declared (n + filled exact n)
