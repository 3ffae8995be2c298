use Rattle.std.proofs.Common.{◌≡◌, drop}
use Rattle.gltf_validation.specs.Locations.{places_of}
use Rattle.gltf_findings.specs.Checks.{told_after, elements_checks}
use Rattle.gltf_inspect_trees.specs.Skeletons.{skeleton_checks}
use Rattle.gltf_inspect_trees.specs.Trees.{is_below_in}
use Rattle.gltf_inspect_trees.proofs.skeleton.tell_each.Given as goal

-- what is left of the walk, after what was reported so far, is the whole of it
abbrev pub invariant-loop-i : goal.invariant-loop-i
invariant-loop-i l =
    told_after l.findings (places_of l.location)
    (elements_checks (skeleton_checks (is_below_in l.trees) l.count) l.i (drop l.i l.skins))
    ≡ told_after l.initial.findings (places_of l.location)
    (elements_checks (skeleton_checks (is_below_in l.trees) l.count) 0 l.skins)
