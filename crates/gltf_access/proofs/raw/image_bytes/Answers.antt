use Rattle.gltf_access.proofs.Views.{image_lent}
use Rattle.gltf_access.proofs.raw.image_bytes.Goals as goal

pub returns-in-View : goal.returns-in-View
returns-in-View g c =
    let i = c.args.image.inner in
    image_lent i.document.now i.json.now c.in-View.view _ c.in-View.ensures.0
    c.view_bytes.ensures
