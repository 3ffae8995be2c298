-- How many bytes stand behind buffers, where those that lead to one name share its bytes (glTF 2.0,
-- section 3.6.1).
use Rattle.std.specs.Prelude.{◌^◌, ◌-◌, ◌+◌, ◌||◌, ℕ, min, Bool, true, false, not, List, [], ◌∷◌}
use Rattle.std.specs.Prelude.{if◌then◌else◌, length, Option, Some, None, get_or, is_some, bytes_eq}
use Rattle.std.specs.BTreeMap.{BTreeMap, get_by_text}
use Rattle.std.specs.declared.alloc.Global.{Global}
use Rattle.std.specs.declared.string.String.{String}
use Rattle.gltf_names.specs.Named.{Named, File, Relative}
use Rattle.gltf_buffers.specs.Buffers.{Source, name_at}
use Rattle.gltf_shared.specs.declared.lengths.Seen.{Seen}

-- a number, or the greatest of 64 bits
abbrev pub capped : ℕ → ℕ
capped n = min n (2 ^ 64 - 1)

-- whether two names are one
abbrev pub is_same : Named → Named → Bool
is_same (File a) (File b) = bytes_eq a b
is_same (File a) (Relative b) = false
is_same (Relative a) (File b) = false
is_same (Relative a) (Relative b) = bytes_eq a b

-- which names there were
abbrev pub Names : Type 0
Names = Named → Bool

abbrev pub no_names : Names
no_names name = false

-- whether a buffer has bytes that none before has: it leads to no name, or to a new one
abbrev pub is_own : Names → Option Named → Bool
is_own names None = true
is_own names (Some name) = not (names name)

-- the names with that which a buffer leads to
abbrev pub with_name : Option Named → Names → Names
with_name None names other = names other
with_name (Some name) names other = is_same other name || names other

-- how many bytes of its own the buffer at index i has
abbrev pub own_len : Names → ℕ → Source → List (List ℕ) → ℕ
own_len names i s all = if is_own names (name_at s.uri) then length (get_or all i []) else 0

-- those of the buffers from index i on, each of which adds its name
abbrev pub shared_len : Names → ℕ → List Source → List (List ℕ) → ℕ
shared_len names i [] all = 0
shared_len names i (s ∷ sources) all =
    own_len names i s all + shared_len (with_name (name_at s.uri) names) (i + 1) sources all

-- whether a text is a key
abbrev pub is_in : BTreeMap (String Global) Unit → List ℕ → Bool
is_in texts text = is_some (get_by_text texts text)

-- the names that were seen
abbrev pub has : Seen → Names
has seen (File text) = is_in seen.files text
has seen (Relative text) = is_in seen.relatives text
