use Rattle.gltf_bundle.proofs.Viewed.{keeps_images}
use Rattle.gltf_bundle.proofs.laws.images_in_views_are_kept.Goals as goal

pub returns : goal.returns
returns c =
    keeps_images c.one_text_and_blob.ensures c.reads_back.ensures c.spaces_behind.ensures
    c.images_stay.ensures c.views_are_kept.ensures
