use Rattle.std.proofs.Common.{◌≡◌, ◌++◌, ◌∙◌, List, ℕ, [], ap, subst}
use Rattle.std.specs.Prelude.{slice_get}
use Rattle.std.proofs.lemmas.Result.{IfOk-weaker}
use Rattle.gltf.specs.Shown.{bytes_of_each}
use Rattle.gltf_findings.specs.Checks.{findings_of}
use Rattle.gltf_shared.specs.Shown.{lent_bytes}
use Rattle.gltf_json.specs.declared.root.Root.{Root}
use Rattle.gltf_inspect_files.specs.Reports.{contents_checks, document_findings, records_findings}
use Rattle.gltf_inspect_files.proofs.inspect.inspect_imported.Goals as goal

pub returns : goal.returns
returns c =
    let r = c.args.document.now in
    let records : c.in_ok-records.records ≡ records_findings r =
    c.in_ok-records.ensures ∙ ap (λ (s : Root). records_findings s) c.as_json.ensures in
    let told : c.in_ok-items.items
    ≡ findings_of [] (contents_checks r (slice_get (lent_bytes c.deref.result.now))) =
    c.in_ok-items.ensures in
    let items : c.in_ok-items.items
    ≡ findings_of [] (contents_checks r (slice_get (bytes_of_each c.args.buffers.now))) =
    subst (λ (bytes : List (List ℕ)). c.in_ok-items.items
    ≡ findings_of [] (contents_checks r (slice_get bytes)))
    (ap lent_bytes c.deref.ensures.value ∙ c.in_ok-lent.ensures) told in
    IfOk-weaker c.joined.result
    (λ report. report ≡ c.in_ok-records.records ++ c.in_ok-items.items)
    (λ found. found ≡ document_findings r (bytes_of_each c.args.buffers.now))
    (λ report is. is ∙ (λ i. records i ++ items i)) c.joined.ensures
