use Rattle.std.proofs.Common.{◌≡◌, drop}
use Rattle.serde_json.specs.View.{items_view}
use Rattle.gltf_trim.specs.Known.{are_known}
use Rattle.gltf_trim.proofs.known.are_known.Given as goal

-- those that are left decide
abbrev pub invariant-loop-name : goal.invariant-loop-name
invariant-loop-name l =
    are_known (items_view (drop l.name-index l.names)) ≡ are_known (items_view l.names)
