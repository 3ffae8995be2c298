use Rattle.std.proofs.Common.{◌≡◌, drop}
use Rattle.gltf_validation.specs.Locations.{places_of}
use Rattle.gltf_findings.specs.Checks.{told_after, elements_checks}
use Rattle.gltf_inspect_nodes.specs.Marks.{is_marked}
use Rattle.gltf_inspect_nodes.specs.Roots.{skin_checks}
use Rattle.gltf_inspect_nodes.proofs.roots.tell_skins.Given as goal

-- what is left of the walk, after what was reported so far, is the whole of it
abbrev pub invariant-loop-i : goal.invariant-loop-i
invariant-loop-i l =
    told_after l.findings (places_of l.location)
    (elements_checks (skin_checks (is_marked l.are_children) l.ends) l.i (drop l.i l.skins))
    ≡ told_after l.initial.findings (places_of l.location)
    (elements_checks (skin_checks (is_marked l.are_children) l.ends) 0 l.skins)
