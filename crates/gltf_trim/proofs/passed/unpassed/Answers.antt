use Rattle.serde_json.specs.View.{items_view}
use Rattle.gltf_trim.specs.Tails.{bytes_of}
use Rattle.gltf_trim.proofs.Behind.{all_passed}
use Rattle.gltf_trim.proofs.passed.unpassed.Goals as goal

pub returns : goal.returns
returns c =
    all_passed c.args.marks.now c.loop-i.left.items c.args.ends.now c.in_ok-places.places.items
    (bytes_of c.args.bytes.now) (items_view c.args.views.now) c.in_ok-places.ensures
    c.loop-i.invariant
