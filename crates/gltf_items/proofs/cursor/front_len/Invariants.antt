use Rattle.std.proofs.Common.{◌≡◌, ◌+◌, ◌-◌, ◌^◌, ◌≤◌, length}
use Rattle.gltf_items.specs.Sparse.{front}
use Rattle.gltf_items.proofs.Fronts.{ahead}
use Rattle.gltf_items.proofs.cursor.front_len.Given as goal

abbrev pub invariant-loop-front : goal.invariant-loop-front
invariant-loop-front g l = record {
  within : l.front ≤ l.most;
  least : l.least ≤ 2 ^ 32;
  rest : l.front + ahead l.initial.stored.indices l.initial.stored.values l.least l.front
      ≡ length (front l.initial.stored.indices l.initial.stored.values);
  same : l.stored ≡ record l.initial.stored
      { index_reads = l.initial.stored.index_reads + l.front };
}

abbrev pub decreases-loop-front : goal.decreases-loop-front
decreases-loop-front g l = l.most - l.front
