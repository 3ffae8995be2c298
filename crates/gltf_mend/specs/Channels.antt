-- The channels of an animation (glTF 2.0, section 5.7). One that names no node may be ignored
-- (section 5.7.1.1, `animation.channel.target.node`).
use Rattle.std.specs.Prelude.{◌≡◌, List, ◌++◌, [], ◌∷◌, Bool, false, ◌&&◌, is_some, is_none}
use Rattle.std.specs.Prelude.{unwrap_or}
use Rattle.std.specs.Prelude.{option_map, if◌then◌else◌, codes}
use Rattle.serde_json.specs.Data.{Data, null, boolean, number, string, array, object, Items}
use Rattle.serde_json.specs.Data.{no_items, item}
use Rattle.serde_json.specs.Find.{as_object}
use Rattle.gltf_json_record.specs.Member.{member_at}

-- an object without `node`
abbrev pub lacks_node : Data → Bool
lacks_node d = is_some (as_object d) && is_none (member_at (codes "node") d)

-- the target of a channel is there, and names no node
abbrev pub names_no_node : Data → Bool
names_no_node d = unwrap_or (option_map lacks_node (member_at (codes "target") d)) false

abbrev pub kept : Items → Items
kept no_items = no_items
kept (item d ds) = if names_no_node d then kept ds else item d (kept ds)

-- the channels of a list that do not lack a node
abbrev pub with_nodes : Data → Data
with_nodes null = null
with_nodes (boolean b) = boolean b
with_nodes (number n) = number n
with_nodes (string s) = string s
with_nodes (array ds) = array (kept ds)
with_nodes (object ms) = object ms

-- one channel more, unless it names no node
abbrev pub IsKept : Data → List Data → List Data → Type 0
IsKept d old new = new ≡ (if names_no_node d then old else old ++ d ∷ [])
