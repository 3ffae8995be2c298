use Rattle.std.proofs.Common.{◌≡◌, drop}
use Rattle.std.specs.Prelude.{slice_get}
use Rattle.gltf_shared.specs.Shown.{lent_bytes}
use Rattle.gltf_validation.specs.Locations.{places_of}
use Rattle.gltf_findings.specs.Checks.{told_after}
use Rattle.gltf_inspect_items.specs.Plans.{is_out}
use Rattle.gltf_inspect_values.specs.Bounds.{each_checks}
use Rattle.gltf_inspect_values.specs.Plans.{accessor_checks_but, AreSummaries}
use Rattle.gltf_inspect_values.proofs.accessors.tell_each.Given as goal

-- what is left of the walk, after what was reported so far, is the whole of it; and what was kept
-- is what is found there
abbrev pub invariant-loop-index : goal.invariant-loop-index
invariant-loop-index l = record {
  told : told_after l.findings (places_of l.location)
      (each_checks (accessor_checks_but (is_out l.plan.left_out.now) l.document
      (slice_get (lent_bytes l.buffers))) l.index (drop l.index l.accessors))
      ≡ told_after l.initial.findings (places_of l.location)
      (each_checks (accessor_checks_but (is_out l.plan.left_out.now) l.document
      (slice_get (lent_bytes l.buffers))) 0 l.accessors);
  kept : AreSummaries l.document (slice_get (lent_bytes l.buffers)) l.table;
}
