use Rattle.std.proofs.Common.{◌≡◌, map, string_bytes}
use Rattle.std.specs.Map.Iter.{deref}
use Rattle.serde_json.specs.View.{view}
use Rattle.gltf_mend.proofs.Named.{left_by}
use Rattle.gltf_mend.proofs.attributes.WithAttributesEdit.edit.Given as goal

abbrev pub invariant-loop-name : goal.invariant-loop-name
invariant-loop-name l =
    view l.left ≡ left_by (map string_bytes (map deref l.yielded)) (view l.value)
