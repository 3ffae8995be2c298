use Rattle.std.proofs.Common.{◌≡◌}
use Rattle.serde_json.specs.View.{view}
use Rattle.gltf_edit.proofs.Said.{both_moved}
use Rattle.gltf_edit.proofs.documents.relocated_extensions.Goals as goal

pub returns : goal.returns
returns c =
    let made = rw c.in-Some.is at c.in_ok-once.ensures in
    both_moved c.args.spans.now (view c.args.extensions.now) (view c.in-Some.once) made.0 made.1
    c.relocated_at-2.result c.relocated_at-2.ensures
