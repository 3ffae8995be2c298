use Rattle.std.proofs.Common.{◌≡◌, drop}
use Rattle.serde_json.specs.View.{items_view}
use Rattle.gltf_validation.specs.Locations.{places_of}
use Rattle.gltf_findings.specs.Checks.{told_after}
use Rattle.gltf_inspect_meshes.specs.Names.{has_name}
use Rattle.gltf_inspect_unkept.specs.Parts.{items_checks}
use Rattle.gltf_inspect_unkept.proofs.parts.tell_each.Given as goal

-- what is left of the walk, after what was reported so far, is the whole of it
abbrev pub invariant-loop-i : goal.invariant-loop-i
invariant-loop-i g l =
    told_after l.findings (places_of l.location)
    (items_checks (g.P.Part.checks (has_name l.used)) l.i (items_view (drop l.i l.list)))
    ≡ told_after l.initial.findings (places_of l.location)
    (items_checks (g.P.Part.checks (has_name l.used)) 0 (items_view l.list))
