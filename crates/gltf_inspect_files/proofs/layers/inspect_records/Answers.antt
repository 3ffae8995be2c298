use Rattle.std.proofs.Common.{◌≡◌, ◌≢◌, ◌∙◌, [], inl, subst, sym, ap}
use Rattle.std.specs.Prelude.{IfNone, IfSome}
use Rattle.gltf_buffers.specs.Shown.{blob_bytes}
use Rattle.gltf_validation.specs.Documents.{Faults}
use Rattle.gltf_inspect_files.specs.Reports.{records_findings}
use Rattle.gltf_inspect_files.proofs.Asking.{none_asked}
use Rattle.gltf_inspect_files.proofs.layers.inspect_records.Goals as goal

pub returns-in-None-clause-records : goal.returns-in-None-clause-records
returns-in-None-clause-records g c = λ bytes document only.
    let root = c.into_json-root.result in
    let broken : Faults root ≢ [] =
    subst (λ o. IfNone o (Faults root ≢ [])) c.in-None.is c.in_ok-document.ensures.broken in
    inl (record {
      root = c.args.file.document;
      blob = blob_bytes c.args.file.blob;
      document = document;
      only = only;
      broken = subst (λ r. Faults r ≢ []) c.into_json-root.ensures broken;
      same = subst (λ r. c.in_ok-records.records ≡ records_findings r) c.into_json-root.ensures
          c.in_ok-records.ensures;
    })

pub inspect_valid-requires-clause-records : goal.inspect_valid-requires-clause-records
inspect_valid-requires-clause-records g c =
    let root = c.into_json-root.result in
    let valid = subst (λ o. IfSome o (λ d. (d ≡ root) × (Faults root ≡ []))) c.in-Some.is
    c.in_ok-document.ensures.valid in
    c.in_ok-records.ensures ∙ ap records_findings (sym valid.0)

pub returns-in-None-clause-asked : goal.returns-in-None-clause-asked
returns-in-None-clause-asked g c = λ can.
    none_asked g.N.AskUpTo.asks c.args.file.document c.args.names.now
