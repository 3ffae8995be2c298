-- Text that stays on its line: a control character stands as its escape.
use Rattle.std.specs.Prelude.{ℕ, ◌+◌, ◌/◌, ◌%◌, ◌==◌, ◌&&◌, ◌||◌, Bool, nat_lt, nat_le}
use Rattle.std.specs.Prelude.{List, [], ◌∷◌, flat_map, if◌then◌else◌}

-- the control characters (Unicode, category Cc), and the separators of lines and of paragraphs
abbrev pub is_control : ℕ → Bool
is_control c = nat_lt c 32 || nat_le 127 c && nat_lt c 160 || c == 8232 || c == 8233

-- the last hexadecimal digit of a number
abbrev pub hex_digit : ℕ → ℕ
hex_digit n = if nat_lt (n % 16) 10 then 48 + n % 16 else 87 + n % 16

-- `\u` and the four hexadecimal digits of a number below 65536
abbrev pub escape : ℕ → List ℕ
escape c =
    92 ∷ 117 ∷ hex_digit (c / 4096) ∷ hex_digit (c / 256) ∷ hex_digit (c / 16) ∷ hex_digit c ∷ []

abbrev pub shown_char : ℕ → List ℕ
shown_char c = if is_control c then escape c else c ∷ []

-- the characters that stand for these
abbrev pub shown_chars : List ℕ → List ℕ
shown_chars cs = flat_map shown_char cs
