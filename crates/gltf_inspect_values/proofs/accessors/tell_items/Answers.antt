use Rattle.std.proofs.Common.{◌≡◌, ap, subst, sym, ◌∙◌}
use Rattle.std.specs.Prelude.{slice_get, OnOk}
use Rattle.gltf_shared.specs.Shown.{lent_bytes}
use Rattle.gltf_validation.specs.Locations.{places_of}
use Rattle.gltf_findings.specs.Checks.{told_after}
use Rattle.gltf_inspect_values.specs.Bounds.{bounds_checks}
use Rattle.gltf_inspect_values.specs.Items.{item_bytes}
use Rattle.gltf_inspect_values.proofs.Asked.{unasked}
use Rattle.gltf_inspect_values.proofs.Same.{found_bounds, found_floats}
use Rattle.gltf_inspect_values.proofs.accessors.tell_items.Goals as goal

pub returns-then-not-are_asked_for-clause-told : goal.returns-then-not-are_asked_for-clause-told
returns-then-not-are_asked_for-clause-told c =
    let items = item_bytes c.args.place.document.now
    (slice_get (lent_bytes c.args.place.buffers.now)) c.args.place.index c.args.accessor.now in
    unasked c.args.findings.now (places_of c.args.location.now) c.args.accessor.now items
    (sym c.are_asked_for.ensures ∙ c.if-not-are_asked_for.true)

pub returns-clause-told : goal.returns-clause-told
returns-clause-told c =
    let a = c.args.accessor.now in
    let items = item_bytes c.args.place.document.now
    (slice_get (lent_bytes c.args.place.buffers.now)) c.args.place.index a in
    let path = places_of c.args.location.now in
    subst (λ told. OnOk c.tell_bounds.result (c.tell_bounds.new.findings
    ≡ told_after told path (bounds_checks a items)))
    (c.in_ok-tell_floats.ensures
    ∙ ap (told_after c.args.findings.now path)
    (found_floats a.component_type items c.in_ok-found.found c.in_ok-found.ensures.found))
    (subst (λ checks. OnOk c.tell_bounds.result (c.tell_bounds.new.findings
    ≡ told_after c.tell_floats.new.findings path checks))
    (found_bounds a items c.in_ok-found.found c.in_ok-found.ensures.found)
    c.tell_bounds.ensures)
