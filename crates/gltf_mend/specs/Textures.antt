-- The image of a texture (glTF 2.0, section 5.29.2, `texture.source`): where it is undefined, an
-- extension is to supply one.
use Rattle.std.specs.Prelude.{ℕ, List, [], ◌∷◌, Option, Some, None, option_and_then, option_map}
use Rattle.std.specs.Prelude.{is_some, if◌then◌else◌, codes}
use Rattle.serde_json.specs.Data.{Data}
use Rattle.serde_json.specs.Find.{get}
use Rattle.gltf_json_record.specs.Member.{member_at}
use Rattle.gltf_edit.specs.Bundled.{with_some, whole, size_at}

-- the image that an extension of a texture names
abbrev pub source_in : List ℕ → Data → Option ℕ
source_in name d =
    option_and_then (size_at (codes "source"))
    (option_and_then (get name) (get (codes "extensions") d))

abbrev pub or_else : Option ℕ → Option ℕ → Option ℕ
or_else None o = o
or_else (Some n) o = Some n

-- the image that the first of these extensions names which names one
abbrev pub first_source : List (List ℕ) → Data → Option ℕ
first_source [] d = None
first_source (name ∷ names) d = or_else (source_in name d) (first_source names d)

-- a texture with that image, where it has none
abbrev pub with_source : List (List ℕ) → Data → Data
with_source names d =
    if is_some (member_at (codes "source") d) then d
    else with_some (codes "source") (option_map whole (first_source names d)) d
