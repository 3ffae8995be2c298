use Rattle.std.proofs.Common.{◌≡◌, ◌∙◌, ap, sym, subst, List, ℕ, [], Option, Some}
use Rattle.std.specs.Prelude.{IfOk, slice_get}
use Rattle.gltf_findings.specs.Checks.{findings_of}
use Rattle.gltf_shared.specs.Shown.{lent_bytes}
use Rattle.gltf_shared.specs.Shown.{bytes_of_each}
use Rattle.gltf_inspect_files.specs.Reports.{contents_checks}
use Rattle.gltf_inspect_files.specs.Within.{budget, AreContents, AreContentsWithin}
use Rattle.gltf_inspect_files.proofs.contents.contents_of.Goals as goal

pub returns-in-None : goal.returns-in-None
returns-in-None c =
    let r = c.args.document.now in
    let all = bytes_of_each c.args.buffers.now in
    let told : IfOk c.inspect_contents.result (λ report. report ≡ findings_of []
    (contents_checks r (slice_get (lent_bytes c.deref.result.now)))) = c.inspect_contents.ensures in
    let same : lent_bytes c.deref.result.now ≡ all =
    ap lent_bytes c.deref.ensures.value ∙ c.in_ok-lent.ensures in
    subst (λ (share : Option ℕ). IfOk c.inspect_contents.result (AreContents share c.args.len r all))
    (sym c.in-None.is)
    (subst (λ (bytes : List (List ℕ)). IfOk c.inspect_contents.result (λ report. report
    ≡ findings_of [] (contents_checks r (slice_get bytes)))) same told)

pub returns : goal.returns
returns c =
    let r = c.args.document.now in
    let all = bytes_of_each c.args.buffers.now in
    let told : IfOk c.contents_within.result
    (AreContentsWithin c.in_ok-budget-in-Some.budget r (lent_bytes c.deref-in-Some.result.now)) =
    c.contents_within.ensures in
    let same : lent_bytes c.deref-in-Some.result.now ≡ all =
    ap lent_bytes c.deref-in-Some.ensures.value ∙ c.in_ok-lent.ensures in
    subst (λ (share : Option ℕ). IfOk c.contents_within.result (AreContents share c.args.len r all))
    (sym c.in-Some.is)
    (subst (λ (n : ℕ). IfOk c.contents_within.result (AreContentsWithin n r all))
    c.in_ok-budget-in-Some.ensures
    (subst (λ (bytes : List (List ℕ)). IfOk c.contents_within.result
    (AreContentsWithin c.in_ok-budget-in-Some.budget r bytes)) same told))
