use Rattle.gltf_data.specs.Iter.{counted_items}
use Rattle.gltf_access.proofs.Tried.{tried}
use Rattle.gltf_access.proofs.why.items.Goals as goal

pub returns : goal.returns
returns g c =
    let a = c.args.accessor.inner in
    tried (λ it. (counted_items it).items) g.T.Item a.document.now a.json.now c.try_new.result
    c.reason.result c.try_new.ensures.outcome c.try_new.ensures.alike c.reason.ensures
