-- Which nodes are above others, by the tables that are kept of them.
use Rattle.std.specs.Prelude.{ℕ, Bool, true, ◌||◌, not, List}
use Rattle.gltf_inspect_nodes.specs.Roots.{are_fixed}
use Rattle.gltf_inspect_trees.specs.declared.trees.Trees.{Trees}
use Rattle.gltf_inspect_trees.specs.declared.trees.Trees.TheVariants.{InOrder, Rooted, Looped}
use Rattle.gltf_inspect_trees.specs.Climbs.{climb_of, first_climb, raised, reaches}
use Rattle.gltf_inspect_trees.specs.Jumps.{is_above}

-- k is s or below it
abbrev pub is_below_in : Trees → ℕ → ℕ → Bool
is_below_in (InOrder jumps) s k = is_above jumps.parents.items s k
is_below_in (Rooted climbs) s k = reaches (climb_of climbs) s k
is_below_in Looped s k = true

-- the same by the parents, where no node is on a loop
abbrev pub is_below_from : List ℕ → ℕ → ℕ → Bool
is_below_from parents s k =
    not (are_fixed parents (raised 64 (first_climb parents)).top) || is_above parents s k
