use Rattle.gltf_rules.proofs.Elements.{element_holds}
use Rattle.gltf_rules.proofs.lists.element.Goals as goal

pub returns-clause-hold : goal.returns-clause-hold
returns-clause-hold g c =
    λ counts holds. element_holds (g.T.Validate.rules counts) c.args.list.now c.args.index
    c.index-list-index.result c.requires c.index-list-index.is holds
