use Rattle.std.proofs.Common.{◌≡◌, true, take}
use Rattle.std.specs.List.{list_all}
use Rattle.gltf_bundle.specs.Media.{is_type_byte}
use Rattle.gltf_bundle.proofs.media.is_type_name.Given as goal

abbrev pub invariant-loop-b : goal.invariant-loop-b
invariant-loop-b l = list_all is_type_byte (take l.b-index l.name) ≡ true
