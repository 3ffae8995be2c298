use Rattle.std.proofs.Common.{◌≡◌, take}
use Rattle.serde_json.specs.View.{items_view}
use Rattle.gltf_edit.specs.Embedded.{views_of}
use Rattle.gltf_edit.proofs.images.new_views.Given as goal

abbrev pub invariant-loop-picture : goal.invariant-loop-picture
invariant-loop-picture l =
    items_view l.all.items ≡ views_of l.first (take l.picture-index l.pictures)
