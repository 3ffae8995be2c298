use Rattle.std.specs.Prelude.{slice_get}
use Rattle.gltf_shared.specs.Shown.{lent_bytes}
use Rattle.gltf_inspect_items.specs.Plans.{is_out}
use Rattle.gltf_validation.specs.Locations.{places_of}
use Rattle.gltf_inspect_values.specs.Plans.{accessor_checks_but}
use Rattle.gltf_inspect_values.proofs.Each.{next_of_each}
use Rattle.gltf_inspect_values.proofs.accessors.tell_each.Goals as goal

pub loop-index-preserved : goal.loop-index-preserved
loop-index-preserved c = record {
  told = next_of_each (accessor_checks_but (is_out c.args.plan.left_out.now) c.args.document.now
      (slice_get (lent_bytes c.args.buffers.now)))
      c.args.accessors.now c.loop-index.index c.index-accessors-index.result c.loop-index.findings _ _
      (places_of c.args.location.now) c.loop-index-test.true c.index-accessors-index.is
      c.in_ok-tell_accessor.ensures.told c.loop-index.invariant.told;
  kept = c.in_ok-tell_accessor.ensures.kept;
}
