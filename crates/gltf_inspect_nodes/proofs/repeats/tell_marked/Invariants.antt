use Rattle.std.proofs.Common.{◌≡◌, drop}
use Rattle.gltf_validation.specs.Locations.{places_of}
use Rattle.gltf_findings.specs.Checks.{told_after}
use Rattle.gltf_inspect_nodes.specs.Marks.{keyed, marked_unique_checks}
use Rattle.gltf_inspect_nodes.proofs.repeats.tell_marked.Given as goal

-- what is left of the walk, after what was reported and marked so far, is the whole of it
abbrev pub invariant-loop-k : goal.invariant-loop-k
invariant-loop-k g l = record {
  told : told_after l.findings (places_of l.location)
      (marked_unique_checks g.E.Entry.key g.E.Entry.told l.marks.items l.k (drop l.k l.entries))
      ≡ told_after l.initial.findings (places_of l.location)
      (marked_unique_checks g.E.Entry.key g.E.Entry.told l.initial.marks.items 0 l.entries);
  marks : keyed g.E.Entry.key l.marks.items (drop l.k l.entries)
      ≡ keyed g.E.Entry.key l.initial.marks.items l.entries;
}
