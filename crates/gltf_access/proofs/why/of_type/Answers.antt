use Rattle.gltf_access.proofs.Tried.{of_type}
use Rattle.gltf_access.proofs.why.of_type.Goals as goal

pub returns : goal.returns
returns c =
    of_type c.args.accessor.inner.json.now c.data_type.result c.dimensions.result
    c.data_type.ensures c.dimensions.ensures
