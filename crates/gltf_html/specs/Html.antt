-- Text in HTML: what would begin a tag or a reference, or end the value of an attribute, stands as
-- a reference (HTML, section 13.3, "escaping a string"); and JSON text in a script.
use Rattle.std.specs.Prelude.{ℕ, ◌==◌, Bool, ◌||◌, List, [], ◌∷◌, codes, flat_map, if◌then◌else◌}

abbrev pub html_byte : ℕ → List ℕ
html_byte b =
    if b == 38 then codes "&amp;"
    else if b == 60 then codes "&lt;"
    else if b == 62 then codes "&gt;"
    else if b == 34 then codes "&quot;"
    else if b == 39 then codes "&#39;"
    else b ∷ []

abbrev pub html_text : List ℕ → List ℕ
html_text bytes = flat_map html_byte bytes

-- a byte that ends a text, or the value of an attribute
abbrev pub is_markup : ℕ → Bool
is_markup b = b == 60 || b == 62 || b == 34 || b == 39

-- in a script, the byte < as an escape of JSON
abbrev pub data_byte : ℕ → List ℕ
data_byte b = if b == 60 then codes "\\u003c" else b ∷ []

abbrev pub data_text : List ℕ → List ℕ
data_text bytes = flat_map data_byte bytes

abbrev pub is_less_than : ℕ → Bool
is_less_than b = b == 60
