use Rattle.std.proofs.Common.{◌≡◌, drop}
use Rattle.std.specs.Prelude.{slice_get}
use Rattle.gltf_shared.specs.Shown.{lent_bytes}
use Rattle.gltf_validation.specs.Locations.{places_of}
use Rattle.gltf_findings.specs.Checks.{told_after, elements_checks}
use Rattle.gltf_inspect_values.specs.Plans.{animation_checks_but}
use Rattle.gltf_inspect_items.specs.Plans.{is_out}
use Rattle.gltf_inspect_values.specs.Times.{AreFound}
use Rattle.gltf_inspect_values.proofs.times.tell_animations.Given as goal

-- what is left of the walk, after what was reported so far, is the whole of it; and what was found
-- is what is found there
abbrev pub invariant-loop-i : goal.invariant-loop-i
invariant-loop-i l = record {
  told : told_after l.findings (places_of l.location)
      (elements_checks (animation_checks_but (is_out l.plan.left_out.now) l.document
      (slice_get (lent_bytes l.buffers))) l.i
      (drop l.i l.animations))
      ≡ told_after l.initial.findings (places_of l.location)
      (elements_checks (animation_checks_but (is_out l.plan.left_out.now) l.document
      (slice_get (lent_bytes l.buffers))) 0
      l.animations);
  kept : AreFound l.document (slice_get (lent_bytes l.buffers)) l.table;
}
