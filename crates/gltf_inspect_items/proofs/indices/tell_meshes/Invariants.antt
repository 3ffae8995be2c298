use Rattle.std.proofs.Common.{◌≡◌, drop}
use Rattle.std.specs.Prelude.{slice_get}
use Rattle.gltf_shared.specs.Shown.{lent_bytes}
use Rattle.gltf_validation.specs.Locations.{places_of}
use Rattle.gltf_findings.specs.Checks.{told_after, elements_checks}
use Rattle.gltf_inspect_items.specs.Found.{AreFound}
use Rattle.gltf_inspect_items.specs.Plans.{is_out, mesh_checks_but}
use Rattle.gltf_inspect_items.proofs.indices.tell_meshes.Given as goal

-- what is left of the walk, after what was reported so far, is the whole of it; and what was found
-- is what is found there
abbrev pub invariant-loop-i : goal.invariant-loop-i
invariant-loop-i l = record {
  told : told_after l.findings (places_of l.location)
      (elements_checks (mesh_checks_but (is_out l.plan.left_out.now) l.document (slice_get (lent_bytes l.buffers))) l.i
      (drop l.i l.meshes))
      ≡ told_after l.initial.findings (places_of l.location)
      (elements_checks (mesh_checks_but (is_out l.plan.left_out.now) l.document (slice_get (lent_bytes l.buffers))) 0
      l.meshes);
  kept : AreFound l.document (slice_get (lent_bytes l.buffers)) l.table;
}
