use Rattle.std.proofs.Common.{◌≡◌, ◌⊎◌, ℕ, get_or}
use Rattle.gltf_inspect_trees.specs.Depths.{IsDepth, AreKnown}
use Rattle.gltf_inspect_trees.proofs.depths.set_depths.Given as goal

-- what is set so far is right, and what was right still is
abbrev pub invariant-loop-deep : goal.invariant-loop-deep
invariant-loop-deep l = record {
  known : AreKnown l.parents l.depths;
  deep : IsDepth l.parents l.deep l.at;
  here : (l.at ≡ l.node) ⊎ IsDepth l.parents (get_or l.depths l.node 0) l.node;
  others : (k : ℕ) → IsDepth l.parents (get_or l.initial.depths k 0) k
      → IsDepth l.parents (get_or l.depths k 0) k;
}

abbrev pub decreases-loop-deep : goal.decreases-loop-deep
decreases-loop-deep l = l.deep
