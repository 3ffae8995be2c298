use Rattle.std.proofs.Common.{◌≡◌, drop}
use Rattle.serde_json.specs.View.{items_view}
use Rattle.gltf_trim.specs.Marks.{folded, marked_image}
use Rattle.gltf_trim.proofs.marks.mark_images.Given as goal

-- what is left, after what was done so far, is the whole
abbrev pub invariant-loop-image : goal.invariant-loop-image
invariant-loop-image l =
    folded marked_image (items_view (drop l.image-index l.images)) l.marks.items
    ≡ folded marked_image (items_view l.images) l.initial.marks.items
