use Rattle.std.proofs.Common.{◌≡◌, map, take}
use Rattle.serde_json.specs.View.{view}
use Rattle.gltf_mend.proofs.Lists.{kept_list}
use Rattle.gltf_mend.proofs.channels.WithNodesEdit.edit.Given as goal

abbrev pub invariant-loop-channel : goal.invariant-loop-channel
invariant-loop-channel l =
    map view l.kept.items ≡ kept_list (map view (take l.channel-index l.channel-items))
