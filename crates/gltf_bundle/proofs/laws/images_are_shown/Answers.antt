use Rattle.gltf_bundle.proofs.Shown.{shows_images}
use Rattle.gltf_bundle.proofs.laws.images_are_shown.Goals as goal

pub returns : goal.returns
returns c =
    shows_images c.one_text_and_blob.ensures c.reads_back.ensures c.spaces_behind.ensures
    c.images_are_shown.ensures
