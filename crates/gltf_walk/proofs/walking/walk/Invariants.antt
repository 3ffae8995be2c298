use Rattle.std.proofs.Common.{◌+◌}
use Rattle.gltf_handles.specs.Lists.{position}
use Rattle.gltf_walk.specs.Walks.{children_lists, document_of, nodes_left}
use Rattle.gltf_walk.proofs.Costs.{cost, open_cost}
use Rattle.gltf_walk.proofs.Stepping.{Keeps, is_marked, levels_of}
use Rattle.gltf_walk.proofs.walking.walk.Given as goal

abbrev pub invariant-levels : goal.invariant-levels
invariant-levels g l =
    Keeps (document_of (position l.fn.roots)) (nodes_left (position l.fn.roots)) l.steps.items
    l.reached.items l.open.items

abbrev pub decreases-levels : goal.decreases-levels
decreases-levels g l =
    open_cost (levels_of l.open.items)
    + cost (is_marked l.reached.items) 0 (children_lists (document_of (position l.fn.roots)))
