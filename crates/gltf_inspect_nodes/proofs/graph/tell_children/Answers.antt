use Rattle.std.proofs.Common.{sym, length, codes}
use Rattle.gltf_validation.specs.Locations.{places_of}
use Rattle.gltf_inspect_nodes.specs.Named.{children_of}
use Rattle.gltf_inspect_nodes.proofs.Once.{nothing_told}
use Rattle.gltf_inspect_nodes.proofs.graph.tell_children.Goals as goal

pub returns-then-hierarchy-clause-told : goal.returns-then-hierarchy-clause-told
returns-then-hierarchy-clause-told c =
    let ns = c.args.nodes.now in
    sym (nothing_told children_of (codes "children") (length ns) ns c.args.findings.now
    (places_of c.args.location.now) (c.requires.hierarchy.once c.if-hierarchy.true))
