use Rattle.std.proofs.Common.{◌≡◌, ◌∙◌, ap, subst, Bool, List, []}
use Rattle.std.specs.Prelude.{IfOk, slice_get}
use Rattle.std.proofs.lemmas.Result.{IfOk-weaker}
use Rattle.gltf_findings.specs.Checks.{findings_of}
use Rattle.gltf_json.specs.declared.root.Root.{Root}
use Rattle.gltf_json_geometry.specs.declared.accessor.Accessor.{Accessor}
use Rattle.gltf_ranges.specs.Alike.{AreFirsts}
use Rattle.gltf_ranges.specs.Budget.{left_out}
use Rattle.gltf_shared.specs.Shown.{lent_bytes}
use Rattle.gltf_inspect_items.specs.Plans.{is_out}
use Rattle.gltf_inspect_files.specs.Within.{contents_checks_but, AreContentsWithin}
use Rattle.gltf_inspect_files.proofs.contents.contents_within.Goals as goal

pub returns : goal.returns
returns c =
    let r = c.args.document.now in
    let firsts = c.in_ok-firsts.firsts.items in
    let bytes = slice_get (lent_bytes c.args.buffers.now) in
    let told : IfOk c.contents_but.result (λ report. report ≡ findings_of []
    (contents_checks_but (is_out c.deref-3.result.now) r bytes)) = c.contents_but.ensures in
    let out : c.deref-3.result.now ≡ left_out c.args.budget r firsts =
    c.deref-3.ensures.value ∙ c.in_ok-left_out.ensures
    ∙ (λ i. left_out c.args.budget (c.as_json-2.ensures i) (c.deref.ensures.value i)) in
    let are : AreFirsts r.accessors.items firsts =
    subst (λ (xs : List Accessor). AreFirsts xs firsts)
    (c.as_slice.ensures.value ∙ ap (λ (s : Root). s.accessors.items) c.as_json.ensures)
    c.in_ok-firsts.ensures in
    IfOk-weaker c.contents_but.result
    (λ report. report ≡ findings_of []
    (contents_checks_but (is_out (left_out c.args.budget r firsts)) r bytes))
    (AreContentsWithin c.args.budget r (lent_bytes c.args.buffers.now))
    (λ report is. record { firsts = firsts; are = are; same = is })
    (subst (λ (marks : List Bool). IfOk c.contents_but.result (λ report. report ≡ findings_of []
    (contents_checks_but (is_out marks) r bytes))) out told)
