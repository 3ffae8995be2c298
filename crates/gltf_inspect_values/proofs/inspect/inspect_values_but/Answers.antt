use Rattle.std.proofs.Common.{[], ◌∙◌}
use Rattle.std.specs.Prelude.{slice_get}
use Rattle.gltf_shared.specs.Shown.{lent_bytes}
use Rattle.gltf_inspect_items.specs.Plans.{is_out}
use Rattle.gltf_inspect_values.specs.Plans.{values_checks_but}
use Rattle.gltf_inspect_values.proofs.inspect.inspect_values_but.Goals as goal

pub returns : goal.returns
returns c =
    c.new.ensures
    ∙ rw (c.in_ok-tell_values.ensures, c.new-findings.ensures)
    (c.a_walk_adds_what_is_found.ensures [] []
    (values_checks_but (is_out c.args.plan.left_out.now) c.args.document.now
    (slice_get (lent_bytes c.args.buffers.now))))
