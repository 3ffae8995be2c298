use Rattle.std.proofs.Common.{◌≡◌, [], ◌++◌, map, ap, sym, subst, ◌∙◌, OnOk}
use Rattle.gltf_validation.specs.Documents.{counts_of, root_rules}
use Rattle.gltf_validation.specs.Rules.{broken, checks_at}
use Rattle.gltf_findings.specs.Checks.{told_after, findings_of}
use Rattle.gltf_inspect.specs.Refusals.{root_refusals, refusal}
use Rattle.gltf_inspect.proofs.Refused.{refused}
use Rattle.gltf_inspect.proofs.inspect.inspect_rules.Goals as goal

pub returns : goal.returns
returns c =
    let whole : c.in_ok-faults.faults.items
    ≡ broken (checks_at [] (root_rules (counts_of c.args.root.now) c.args.root.now)) =
    c.in_ok-faults.ensures in
    let found : map refusal c.as_slice.result.now ≡ findings_of [] (root_refusals c.args.root.now) =
    ap (λ fs. map refusal fs) (c.as_slice.ensures.value ∙ whole)
    ∙ refused [] (root_rules (counts_of c.args.root.now) c.args.root.now) in
    let told : c.args.findings.now ++ map refusal c.as_slice.result.now
    ≡ told_after c.args.findings.now [] (root_refusals c.args.root.now) =
    ap (λ fs. c.args.findings.now ++ fs) found
    ∙ sym (c.a_walk_adds_what_is_found.ensures c.args.findings.now []
    (root_refusals c.args.root.now)) in
    subst (λ fs. OnOk c.tell_refusals.result (c.tell_refusals.new.findings ≡ fs)) told
    c.tell_refusals.ensures
