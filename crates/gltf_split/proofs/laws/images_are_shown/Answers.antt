use Rattle.gltf_split.proofs.Imported.{shows_images}
use Rattle.gltf_split.proofs.laws.images_are_shown.Goals as goal

pub returns : goal.returns
returns c =
    shows_images c.images_are_named.ensures c.uris_lead_to_names.ensures
    c.documents_are_read.ensures
