use Rattle.std.proofs.Common.{◌≤◌, ◌^◌, ◌-◌, length, take}
use Rattle.gltf_stream.specs.Streams.{ReadsBehind}
use Rattle.gltf_stream.proofs.reading.read_to_end.Given as goal

abbrev pub invariant-pieces : goal.invariant-pieces
invariant-pieces g l = record {
  came : ReadsBehind (g.R.Read.remaining l.initial.reader) (g.R.Read.remaining l.reader)
      l.initial.bytes.items (take l.at l.bytes.items);
  there : l.at ≤ length l.bytes.items;
}

abbrev pub decreases-pieces : goal.decreases-pieces
decreases-pieces g l = 2 ^ 64 - l.at
