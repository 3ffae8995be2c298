use Rattle.std.proofs.Common.{◌≡◌, ◌∙◌, ap}
use Rattle.gltf_validation.specs.Documents.{counts_of}
use Rattle.gltf_rules.proofs.Elements.{element_holds}
use Rattle.gltf_rules.proofs.records.ValidRecords.get.Goals as goal

pub returns-clause-hold : goal.returns-clause-hold
returns-clause-hold g c =
    let same : c.list-list.result.now ≡ g.K.Kind.list c.args.self.now =
    c.list-list.ensures ∙ ap (λ r. g.K.Kind.list r) c.as_root-root.ensures.same in
    element_holds (g.K.Kind.record_rules (counts_of c.args.self.now))
    (g.K.Kind.list c.args.self.now) c.args.index c.index-list-index.result
    c.requires (rw same at c.index-list-index.is)
    (g.met.K.Kind.hold c.args.self.now c.as_root-root.ensures.hold)
