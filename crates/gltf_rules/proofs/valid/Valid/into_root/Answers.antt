use Rattle.std.proofs.Common.{◌≡◌, [], subst}
use Rattle.gltf_json.specs.declared.root.Root.{Root}
use Rattle.gltf_validation.specs.Documents.{Faults}
use Rattle.gltf_rules.proofs.valid.Valid.into_root.Goals as goal

pub returns-clause-valid : goal.returns-clause-valid
returns-clause-valid c =
    let P : Root → Type 0 = λ r. Faults r ≡ [] in
    subst P c.self.view_is ((c.no_rule_is_broken_where_all_hold.ensures c.self.inside.root).1
    c.self.invariant)
