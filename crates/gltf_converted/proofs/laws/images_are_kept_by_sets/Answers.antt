use Rattle.gltf_converted.proofs.Back.{keeps_images}
use Rattle.gltf_converted.proofs.laws.images_are_kept_by_sets.Goals as goal

pub returns : goal.returns
returns c =
    keeps_images c.images_are_shown.ensures c.images_in_views_are_kept.ensures
    c.images_in_views_have_files.ensures c.images_are_shown-2.ensures
