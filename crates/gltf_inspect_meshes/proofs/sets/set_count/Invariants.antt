use Rattle.std.proofs.Common.{◌≡◌, ◌+◌, ◌≤◌, length}
use Rattle.gltf_inspect_meshes.specs.Sets.{sets}
use Rattle.gltf_inspect_meshes.proofs.sets.set_count.Given as goal

-- what is counted and what is left to count is the whole
abbrev pub invariant-loop-semantic : goal.invariant-loop-semantic
invariant-loop-semantic l = record {
  counted : l.count + length (sets l.kind l.semantic-iterator)
      ≡ length (sets l.kind l.attributes.entries);
  bound : l.count + length l.semantic-iterator ≤ l.len;
}
