use Rattle.std.proofs.Common.{◌≡◌, take}
use Rattle.serde_json.specs.View.{items_view}
use Rattle.gltf_edit.specs.Embedded.{buffers_of}
use Rattle.gltf_edit.proofs.images.new_buffers.Given as goal

abbrev pub invariant-loop-picture : goal.invariant-loop-picture
invariant-loop-picture l = items_view l.all.items ≡ buffers_of (take l.picture-index l.pictures)
