use Rattle.std.proofs.Common.{◌≡◌, drop, map}
use Rattle.gltf_inspect_trees.specs.Climbs.{climbed}
use Rattle.gltf_inspect_trees.proofs.climb.climbed.Given as goal

-- the steps that are left, by the tables that are left, lead where all do
abbrev pub invariant-loop-table : goal.invariant-loop-table
invariant-loop-table l =
    climbed (map (λ t. t.items) (drop l.table-index l.levels)) l.top l.steps l.node
    ≡ climbed (map (λ t. t.items) l.levels) l.top l.initial.steps l.initial.node
