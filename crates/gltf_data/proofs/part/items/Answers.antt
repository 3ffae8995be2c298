use Rattle.std.proofs.Common.{rules}
use Rattle.gltf_data.proofs.Addressed.{reads_nothing, reads_items}
use Rattle.gltf_data.proofs.part.items.Goals as goal

pub returns-in_err-items : goal.returns-in_err-items
returns-in_err-items g c = reads_nothing g.T.Item.value c.args.which c.ask-bytes.result
    c.in_err-items.field-0.0 c.ask-bytes.ensures (search rules) (search rules)

pub returns : goal.returns
returns g c = reads_items g.T.Item.value c.args.which c.in_ok-items.items.now c.ask-bytes.result
    c.ask-bytes.ensures (search rules) c.items_of_a_cut.ensures (search rules)
