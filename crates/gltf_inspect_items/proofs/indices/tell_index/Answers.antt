use Rattle.std.proofs.Common.{◌≡◌, subst, sym, ap, ◌∙◌, Some, refl, length}
use Rattle.std.proofs.lemmas.Bool.{ltb-true}
use Rattle.std.proofs.lemmas.Option.{slice_get_read}
use Rattle.gltf_json.specs.declared.root.Root.{Root}
use Rattle.std.specs.Prelude.{slice_get, OnOk}
use Rattle.gltf_validation.specs.Locations.{places_of}
use Rattle.gltf_findings.specs.Checks.{told_after}
use Rattle.gltf_shared.specs.Shown.{lent_bytes}
use Rattle.gltf_inspect_items.specs.Plans.{is_out}
use Rattle.gltf_inspect_items.proofs.Alike.{checked, left_out}
use Rattle.gltf_inspect_items.proofs.indices.tell_index.Goals as goal

pub returns-then-is_out-clause-told : goal.returns-then-is_out-clause-told
returns-then-is_out-clause-told c =
    ap (told_after c.args.findings.now (places_of c.args.location.now))
    (left_out c.args.document.now (slice_get (lent_bytes c.args.buffers.now))
    c.args.drawn.vertices c.args.drawn.triangles (is_out c.args.plan.left_out.now) c.args.index
    (sym c.is_out.ensures ∙ c.if-is_out.true))

pub returns-clause-told : goal.returns-clause-told
returns-clause-told c =
    let items : c.as_slice.result.now ≡ c.args.document.now.accessors.items =
    c.as_slice.ensures.value ∙ ap (λ (r : Root). r.accessors.items) c.as_json.ensures in
    let first = c.first_of-first.result in
    let here : slice_get c.args.document.now.accessors.items first ≡ Some c.in-Some.accessor.now =
    subst (λ xs. slice_get xs first ≡ Some c.in-Some.accessor.now) items
    (slice_get_read c.as_slice.result.now (length c.as_slice.result.now) first
    c.in-Some.accessor.now refl
    (ltb-true first (length c.as_slice.result.now) (sym c.in-Some.ensures.lookup.0))
    c.in-Some.ensures.lookup.1) in
    subst (λ checks. OnOk c.tell_indices.result (c.tell_indices.new.findings
    ≡ told_after c.args.findings.now (places_of c.args.location.now) checks))
    (checked c.args.document.now (slice_get (lent_bytes c.args.buffers.now))
    c.args.drawn.vertices c.args.drawn.triangles (is_out c.args.plan.left_out.now) c.args.index
    c.first_of-first.result c.in-Some.accessor.now (c.first_of-first.ensures _ c.requires.firsts)
    here (sym c.is_out.ensures ∙ c.if-is_out.false)) c.tell_indices.ensures.told
