use Rattle.std.proofs.Common.{◌≡◌, subst, sym, ap, ◌∙◌}
use Rattle.std.specs.Prelude.{slice_get, OnOk}
use Rattle.gltf_validation.specs.Locations.{places_of}
use Rattle.gltf_findings.specs.Checks.{told_after}
use Rattle.gltf_shared.specs.Shown.{lent_bytes}
use Rattle.gltf_inspect_items.specs.Plans.{is_out}
use Rattle.gltf_inspect_values.proofs.Keeping.{times_checked, times_left_out}
use Rattle.gltf_inspect_values.proofs.times.tell_input.Goals as goal

pub returns-then-is_out-clause-told : goal.returns-then-is_out-clause-told
returns-then-is_out-clause-told c =
    ap (told_after c.args.findings.now (places_of c.args.location.now))
    (times_left_out c.args.document.now (slice_get (lent_bytes c.args.buffers.now))
    (is_out c.args.plan.left_out.now) c.args.index (sym c.is_out.ensures ∙ c.if-is_out.true))

pub returns-clause-told : goal.returns-clause-told
returns-clause-told c =
    subst (λ checks. OnOk c.tell_times.result (c.tell_times.new.findings
    ≡ told_after c.args.findings.now (places_of c.args.location.now) checks))
    (times_checked c.args.document.now (slice_get (lent_bytes c.args.buffers.now))
    (is_out c.args.plan.left_out.now) c.args.index c.first_of-first.result
    (c.first_of-first.ensures _ c.requires.firsts) (sym c.is_out.ensures ∙ c.if-is_out.false))
    c.tell_times.ensures.told
