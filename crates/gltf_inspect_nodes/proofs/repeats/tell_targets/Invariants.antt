use Rattle.std.proofs.Common.{◌≡◌, [], drop, length}
use Rattle.gltf_validation.specs.Locations.{places_of}
use Rattle.gltf_findings.specs.Checks.{told_after, elements_checks}
use Rattle.gltf_inspect_nodes.specs.Graphs.{animation_checks}
use Rattle.gltf_inspect_nodes.specs.Marks.{AreMarks}
use Rattle.gltf_inspect_nodes.proofs.repeats.tell_targets.Given as goal

-- what is left of the walk, after what was reported so far, is the whole of it, and nothing is
-- marked
abbrev pub invariant-loop-i : goal.invariant-loop-i
invariant-loop-i l = record {
  told : told_after l.findings (places_of l.location)
      (elements_checks (animation_checks (length l.initial.marks.items)) l.i
      (drop l.i l.animations))
      ≡ told_after l.initial.findings (places_of l.location)
      (elements_checks (animation_checks (length l.initial.marks.items)) 0 l.animations);
  marks : AreMarks (length l.initial.marks.items) [] l.marks.items;
}
