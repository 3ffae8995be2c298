use Rattle.std.proofs.Common.{◌≡◌}
use Rattle.serde_json.specs.View.{members_view}
use Rattle.gltf_trim.specs.Known.{names_are_known}
use Rattle.gltf_trim.proofs.known.names_known.Given as goal

-- those that are left decide
abbrev pub invariant-loop-name : goal.invariant-loop-name
invariant-loop-name l =
    names_are_known (members_view l.name-iterator)
    ≡ names_are_known (members_view l.initial.name-iterator)
