use Rattle.std.proofs.Common.{◌≡◌, ◌∙◌, [], ap}
use Rattle.gltf_json.specs.Documents.{root}
use Rattle.gltf_validation.specs.Documents.{Faults}
use Rattle.gltf_rules.proofs.valid.Valid.clone.Goals as goal

pub invariant_of-result : goal.invariant_of-result
invariant_of-result c =
    let law = c.no_rule_is_broken_where_all_hold.ensures in
    let copy : root.content c.in_ok-root.root ≡ root.content c.args.self.now =
    c.in_ok-root.ensures ∙ ap root.content c.as_root.ensures.same in
    let none : Faults c.args.self.now ≡ [] = (law c.args.self.now).1 c.as_root.ensures.hold in
    let same : Faults c.in_ok-root.root ≡ Faults c.args.self.now =
    c.what_shows_the_same_breaks_the_same_rules.ensures c.in_ok-root.root c.args.self.now
    copy in
    (law c.in_ok-root.root).0 (same ∙ none)
