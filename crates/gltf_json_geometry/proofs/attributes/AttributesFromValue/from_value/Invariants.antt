use Rattle.std.proofs.Common.{map, string_bytes}
use Rattle.std.specs.Map.Iter.{deref}
use Rattle.serde_json.specs.View.{view}
use Rattle.gltf_json_geometry.proofs.AttributesRead.{ReadSoFar}
use Rattle.gltf_json_geometry.proofs.attributes.AttributesFromValue.from_value.Given as goal

abbrev pub invariant-loop-name : goal.invariant-loop-name
invariant-loop-name l =
    ReadSoFar (view l.value) (map string_bytes (map deref l.yielded)) l.attributes
