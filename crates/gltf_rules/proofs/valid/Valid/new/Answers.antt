use Rattle.std.proofs.Common.{[], ◌≡◌, ◌∙◌, sym}
use Rattle.gltf_validation.specs.Documents.{Faults}
use Rattle.gltf_rules.proofs.Elements.{empty_of}
use Rattle.gltf_rules.proofs.valid.Valid.new.Goals as goal

pub invariant_of-result : goal.invariant_of-result
invariant_of-result c =
    let faults = c.in_ok-faults.faults in
    let none : Faults c.args.root ≡ [] =
    sym c.in_ok-faults.ensures ∙ empty_of faults.items faults.len faults.ok.0
    (sym c.if-is_empty.ensures) in
    (c.no_rule_is_broken_where_all_hold.ensures c.args.root).0 none
