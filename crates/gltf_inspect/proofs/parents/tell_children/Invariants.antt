use Rattle.std.proofs.Common.{◌≡◌, drop}
use Rattle.gltf_validation.specs.Locations.{places_of}
use Rattle.gltf_findings.specs.Checks.{told_after}
use Rattle.gltf_inspect.specs.Marks.{marked, marked_children_checks}
use Rattle.gltf_inspect.proofs.parents.tell_children.Given as goal

-- what is left of the walk, after what was reported and marked so far, is the whole of it
abbrev pub invariant-loop-k : goal.invariant-loop-k
invariant-loop-k l = record {
  told : told_after l.findings (places_of l.location)
      (marked_children_checks l.marks.items l.k (drop l.k l.children))
      ≡ told_after l.initial.findings (places_of l.location)
      (marked_children_checks l.initial.marks.items 0 l.children);
  marks : marked l.marks.items (drop l.k l.children) ≡ marked l.initial.marks.items l.children;
}
