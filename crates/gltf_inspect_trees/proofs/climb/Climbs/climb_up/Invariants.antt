use Rattle.std.proofs.Common.{◌≡◌}
use Rattle.gltf_inspect_trees.specs.Climbs.{Climb, raised, AreTables}
use Rattle.gltf_inspect_trees.proofs.climb.Climbs.climb_up.Given as goal

-- doubled as often as the loop went round
abbrev pub invariant-loop-round : goal.invariant-loop-round
invariant-loop-round l = record {
  tables : (c : Climb) → AreTables c l.initial.self → AreTables (raised l.round c) l.self;
  depths : l.self.depths ≡ l.initial.self.depths;
}
