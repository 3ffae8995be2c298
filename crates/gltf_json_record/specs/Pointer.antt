-- The JSON Pointer (RFC 6901) of a part of a document.
use Rattle.std.specs.Prelude.{ℕ, List, [], ◌∷◌, ◌++◌, ◌==◌, if◌then◌else◌, codes, flat_map}
use Rattle.std.specs.Fmt.{decimal}
use Rattle.gltf_json_record.specs.Place.{Place, named, numbered, keyed}

-- "'~' needs to be encoded as '~0' and '/' needs to be encoded as '~1' when these characters
-- appear in a reference token" (3); each is one byte of UTF-8, which is in no other character
abbrev pub escape : ℕ → List ℕ
escape byte =
    if byte == 126 then codes "~0"
    else if byte == 47 then codes "~1"
    else byte ∷ []

abbrev pub escaped : List ℕ → List ℕ
escaped name = flat_map escape name

-- the reference token of a step: the name of the member of an object, or "an unsigned base-10
-- integer value", with no leading zeros, which is "the zero-based index" of the element of an
-- array (4)
abbrev pub reference_token : Place → List ℕ
reference_token (named name) = escaped name
reference_token (numbered i) = decimal i
reference_token (keyed name) = escaped name

-- each token is "prefixed by a '/'" (3)
abbrev pub pointer_step : Place → List ℕ
pointer_step s = codes "/" ++ reference_token s

-- "a sequence of zero or more reference tokens" (3), that of the outermost step first, as
-- evaluation begins with the root (4); "" is the whole document (5)
abbrev pub pointer_text : List Place → List ℕ
pointer_text places = flat_map pointer_step places
