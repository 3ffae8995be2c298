-- What members are found by name.
use Rattle.std.specs.Prelude.{◌≡◌, ℕ, List, Option}
use Rattle.std.specs.BTreeMap.{BTreeMap}
use Rattle.std.specs.declared.string.String.{String}
use Rattle.std.specs.declared.alloc.Global.{Global}
use Rattle.std.proofs.Math.Path.{fun_ext}
use Rattle.serde_json.specs.Data.{Data}
use Rattle.serde_json.specs.Find.{get_member}
use Rattle.serde_json.specs.View.{members_view}
use Rattle.serde_json.specs.declared.value.Value.{Value}

-- the value of the member of each name
unfoldable pub found_in : BTreeMap (String Global) Value → List ℕ → Option Data
found_in members name = get_member name (members_view members.entries)

pub found_in_alike : (m n : BTreeMap (String Global) Value)
    → ((name : List ℕ) → get_member name (members_view m.entries)
    ≡ get_member name (members_view n.entries)) → found_in m ≡ found_in n
unfolding found_in
found_in_alike m n same = fun_ext same
