use Rattle.gltf_data.specs.Iter.{counted_items}
use Rattle.gltf_data.proofs.Bounds.{walk_bound}
use Rattle.gltf_data.proofs.walk.run.walk.Goals as goal

pub returns-clause-bound : goal.returns-clause-bound
returns-clause-bound g c =
    walk_bound (counted_items c.args.items).stored c.args.steps.now c.args.end
