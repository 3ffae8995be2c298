-- The attributes of a primitive (glTF 2.0, section 3.7.2.1, "Meshes: Overview"): those that the
-- standard names, and those of an application, whose names begin with an underscore.
use Rattle.std.specs.Prelude.{◌^◌, ℕ, List, ◌++◌, Bool, nat_lt, ◌&&◌, ◌||◌, length, take, drop}
use Rattle.std.specs.Prelude.{bytes_eq, if◌then◌else◌, codes}
use Rattle.std.specs.Fmt.{decimal}
use Rattle.std.specs.Str.Parse.{digits_value}
use Rattle.serde_json.specs.Data.{Data, null, boolean, number, string, array, object}
use Rattle.serde_json.specs.Data.{Members, no_members, member}

-- the number that the digits after a prefix write
abbrev pub number_after : List ℕ → List ℕ → ℕ
number_after prefix name = digits_value 10 (drop (length prefix) name)

-- the name is that prefix and a number of 32 bits, in decimal digits with no zero in front
abbrev pub is_of_set : List ℕ → List ℕ → Bool
is_of_set prefix name =
    bytes_eq name (prefix ++ decimal (number_after prefix name))
    && nat_lt (number_after prefix name) (2 ^ 32)

abbrev pub is_own : List ℕ → Bool
is_own name = bytes_eq (take 1 name) (codes "_")

-- an attribute may have this name
abbrev pub is_attribute : List ℕ → Bool
is_attribute name =
    is_own name
    || bytes_eq name (codes "POSITION") || bytes_eq name (codes "NORMAL")
    || bytes_eq name (codes "TANGENT") || is_of_set (codes "COLOR_") name
    || is_of_set (codes "TEXCOORD_") name || is_of_set (codes "JOINTS_") name
    || is_of_set (codes "WEIGHTS_") name

abbrev pub named : Members → Members
named no_members = no_members
named (member name d ms) = if is_attribute name then member name d (named ms) else named ms

-- the members of an object that attributes may be
abbrev pub with_attributes : Data → Data
with_attributes null = null
with_attributes (boolean b) = boolean b
with_attributes (number n) = number n
with_attributes (string s) = string s
with_attributes (array ds) = array ds
with_attributes (object ms) = object (named ms)
