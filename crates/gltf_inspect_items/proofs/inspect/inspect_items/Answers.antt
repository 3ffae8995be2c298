use Rattle.std.proofs.Common.{◌≡◌, ◌∙◌, Bool, List, ℕ, [], ap, subst}
use Rattle.std.specs.Prelude.{IfOk, slice_get}
use Rattle.gltf_findings.specs.Checks.{findings_of}
use Rattle.gltf_inspect_items.specs.Documents.{items_checks}
use Rattle.gltf_shared.specs.Shown.{lent_bytes}
use Rattle.gltf_inspect_items.specs.Plans.{is_out, items_checks_but}
use Rattle.gltf_inspect_items.proofs.inspect.inspect_items.Goals as goal

-- none is left out, and the bytes that are lent are those of the buffers
pub returns : goal.returns
returns c =
    let told : IfOk c.inspect_items_but.result (λ report. report ≡ findings_of []
    (items_checks_but (is_out c.as_slice-2.result.now) c.args.document.now
    (slice_get (lent_bytes c.deref-2.result.now)))) = c.inspect_items_but.ensures in
    let none : c.as_slice-2.result.now ≡ [] =
    c.as_slice-2.ensures.value ∙ c.new-none.ensures.items in
    let all : IfOk c.inspect_items_but.result (λ report. report ≡ findings_of []
    (items_checks c.args.document.now (slice_get (lent_bytes c.deref-2.result.now)))) =
    subst (λ (marks : List Bool). IfOk c.inspect_items_but.result (λ report. report ≡ findings_of []
    (items_checks_but (is_out marks) c.args.document.now
    (slice_get (lent_bytes c.deref-2.result.now))))) none told in
    subst (λ (bytes : List (List ℕ)). IfOk c.inspect_items_but.result (λ report. report
    ≡ findings_of [] (items_checks c.args.document.now (slice_get bytes))))
    (ap lent_bytes c.deref-2.ensures.value ∙ c.in_ok-lent.ensures) all
