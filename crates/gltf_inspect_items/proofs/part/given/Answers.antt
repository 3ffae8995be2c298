use Rattle.std.proofs.Common.{rules}
use Rattle.gltf_data.specs.Parts.{part_of}
use Rattle.gltf_inspect_items.proofs.Parts.{given_back, none_of_cut}
use Rattle.gltf_inspect_items.proofs.part.given.Goals as goal

pub returns-in-None : goal.returns-in-None
returns-in-None g c =
    none_of_cut g.T.Item.value
    (part_of c.args.view.now c.args.offset c.args.count g.T.Item.size) c.args.bytes.now
    (search rules)

pub returns-in-Some : goal.returns-in-Some
returns-in-Some g c =
    given_back g.T.Item.value
    (part_of c.args.view.now c.args.offset c.args.count g.T.Item.size) c.args.bytes.now
    c.in-Some.cut.now _ (search rules) c.items_of_a_cut.ensures (search rules)
