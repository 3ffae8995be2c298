use Rattle.std.proofs.Common.{◌≡◌, drop}
use Rattle.serde_json.specs.View.{items_view, members_view}
use Rattle.gltf_trim.specs.Known.{all_have_known, members_have_known}
use Rattle.gltf_trim.proofs.known.+known.Given as goal

-- those that are left decide
abbrev pub invariant-all_have_known-loop-one : goal.invariant-all_have_known-loop-one
invariant-all_have_known-loop-one l =
    all_have_known (items_view (drop l.one-index l.one-items))
    ≡ all_have_known (items_view l.one-items)

abbrev pub invariant-members_have_known-loop-name : goal.invariant-members_have_known-loop-name
invariant-members_have_known-loop-name l =
    members_have_known (members_view l.name-iterator)
    ≡ members_have_known (members_view l.members.entries)
