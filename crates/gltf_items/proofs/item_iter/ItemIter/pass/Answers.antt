use Rattle.std.proofs.Common.{ap, ◌∙◌, drop, ℕ, rules}
use Rattle.gltf_items.proofs.Lefts.{left_behind_all}
use Rattle.gltf_items.proofs.item_iter.ItemIter.pass.Goals as goal

pub returns : goal.returns
returns g c = left_behind_all c.args.self.now g.met.T.Item.positive c.args.n
    c.behind-self.result.now (search rules)
    (c.behind-self.ensures ∙ ap (λ (n : ℕ). drop n c.args.self.now.bytes.now)
    c.saturating_mul.ensures)
