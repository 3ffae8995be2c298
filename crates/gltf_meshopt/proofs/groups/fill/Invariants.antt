use Rattle.std.proofs.Common.{◌≡◌, take, drop}
use Rattle.gltf_meshopt.specs.Attributes.{deltas_of}
use Rattle.gltf_meshopt.proofs.Filling.{with_front}
use Rattle.gltf_meshopt.proofs.groups.fill.Given as goal

abbrev pub invariant-loop-cell : goal.invariant-loop-cell
invariant-loop-cell l = with_front (take l.cell-index l.cells) (deltas_of l.greatest (drop
    l.cell-index l.cells) l.rest) ≡ deltas_of l.greatest l.fn.cells l.bytes
