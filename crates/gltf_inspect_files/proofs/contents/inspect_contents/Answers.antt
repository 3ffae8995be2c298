use Rattle.std.proofs.Common.{◌≡◌, ◌∙◌, Bool, List, [], subst}
use Rattle.std.specs.Prelude.{IfOk, slice_get}
use Rattle.gltf_findings.specs.Checks.{findings_of}
use Rattle.gltf_shared.specs.Shown.{lent_bytes}
use Rattle.gltf_inspect_items.specs.Plans.{is_out}
use Rattle.gltf_inspect_files.specs.Within.{contents_checks_but}
use Rattle.gltf_inspect_files.proofs.contents.inspect_contents.Goals as goal

-- none is left out
pub returns : goal.returns
returns c =
    let told : IfOk c.contents_but.result (λ report. report ≡ findings_of []
    (contents_checks_but (is_out c.as_slice-2.result.now) c.args.document.now
    (slice_get (lent_bytes c.args.buffers.now)))) = c.contents_but.ensures in
    let none : c.as_slice-2.result.now ≡ [] =
    c.as_slice-2.ensures.value ∙ c.new-none.ensures.items in
    subst (λ (marks : List Bool). IfOk c.contents_but.result (λ report. report ≡ findings_of []
    (contents_checks_but (is_out marks) c.args.document.now
    (slice_get (lent_bytes c.args.buffers.now))))) none told
