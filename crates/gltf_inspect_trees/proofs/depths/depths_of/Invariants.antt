use Rattle.std.proofs.Common.{◌≡◌, ◌<◌, ℕ, get_or, length}
use Rattle.gltf_inspect_trees.specs.Depths.{IsDepth, AreKnown}
use Rattle.gltf_inspect_trees.proofs.depths.depths_of.Given as goal

-- what is set so far is right, and the nodes before this one have their depths
abbrev pub invariant-loop-node : goal.invariant-loop-node
invariant-loop-node l = record {
  long : length l.depths.items ≡ length l.parents;
  known : AreKnown l.parents l.depths.items;
  before : (k : ℕ) → k < l.node → IsDepth l.parents (get_or l.depths.items k 0) k;
}
