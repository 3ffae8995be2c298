use Rattle.std.proofs.Common.{◌-◌, ℕ, sym, ap, ◌∙◌}
use Rattle.gltf_items.proofs.Overridden.{length-left}
use Rattle.gltf_items.proofs.sparse.SparseIter.len.Goals as goal

pub returns : goal.returns
returns g c =
    rw (← c.self.view_is)
    (ap (λ (n : ℕ). n - c.self.inside.position) c.self.invariant.end_is
    ∙ sym (length-left g.T.Item.zero_item c.self.inside.stored.base c.self.inside.stored.indices
    c.self.inside.stored.values c.self.inside.end c.self.inside.position))
