use Rattle.std.proofs.Common.{◌≡◌, drop}
use Rattle.serde_json.specs.View.{items_view}
use Rattle.gltf_edit.specs.Embedded.{with_items}
use Rattle.gltf_fallback.specs.Bare.{bare_of}
use Rattle.gltf_fallback.proofs.bare.bare_of.Given as goal

abbrev pub invariant-loop-buffer : goal.invariant-loop-buffer
invariant-loop-buffer l = record {
  seen : with_items (items_view l.all.items)
      (bare_of (items_view (drop l.buffer-index l.buffers)))
      ≡ bare_of (items_view l.buffers);
}
