use Rattle.std.proofs.Common.{◌≡◌, ◌+◌, ◌≤◌, ◌++◌, drop}
use Rattle.serde_json.specs.View.{items_view}
use Rattle.gltf_fallback.specs.Bare.{seats, first_seat}
use Rattle.gltf_fallback.proofs.bare.seats.Given as goal

abbrev pub invariant-loop-buffer : goal.invariant-loop-buffer
invariant-loop-buffer l = record {
  few : l.next ≤ l.buffer-index + 1;
  seen : l.all.items ++ seats l.behind l.next (items_view (drop l.buffer-index l.buffers))
      ≡ seats l.behind (first_seat l.behind) (items_view l.buffers);
}
