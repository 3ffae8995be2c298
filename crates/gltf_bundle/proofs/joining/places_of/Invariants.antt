use Rattle.std.proofs.Common.{take}
use Rattle.gltf.specs.Shown.{bytes_of_each}
use Rattle.gltf_bundle.proofs.Joins.{IsSoFar}
use Rattle.gltf_bundle.proofs.joining.places_of.Given as goal

abbrev pub invariant-loop-buffer : goal.invariant-loop-buffer
invariant-loop-buffer l =
    IsSoFar (bytes_of_each (take l.buffer-index l.buffers)) l.total l.spans.items
