use Rattle.std.proofs.Common.{◌≡◌, [], drop, length}
use Rattle.gltf_validation.specs.Locations.{places_of}
use Rattle.gltf_findings.specs.Checks.{told_after, elements_checks, member}
use Rattle.gltf_inspect_nodes.specs.Graphs.{unique_checks, node_key, node_told}
use Rattle.gltf_inspect_nodes.specs.Marks.{AreMarks}
use Rattle.gltf_inspect_nodes.proofs.repeats.tell_each.Given as goal

-- what is left of the walk, after what was reported so far, is the whole of it, and nothing is
-- marked
abbrev pub invariant-loop-i : goal.invariant-loop-i
invariant-loop-i g l = record {
  told : told_after l.findings (places_of l.location)
      (elements_checks (λ x. member l.name
      (unique_checks node_key node_told (length l.initial.marks.items) [] 0 (g.T.Names.named x)))
      l.i (drop l.i l.values))
      ≡ told_after l.initial.findings (places_of l.location)
      (elements_checks (λ x. member l.name
      (unique_checks node_key node_told (length l.initial.marks.items) [] 0 (g.T.Names.named x)))
      0 l.values);
  marks : AreMarks (length l.initial.marks.items) [] l.marks.items;
}
