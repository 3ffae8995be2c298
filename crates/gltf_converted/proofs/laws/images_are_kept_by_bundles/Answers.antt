use Rattle.gltf_converted.proofs.Images.{keeps_images}
use Rattle.gltf_converted.proofs.laws.images_are_kept_by_bundles.Goals as goal

pub returns : goal.returns
returns c = keeps_images c.images_are_shown.ensures c.images_are_shown-2.ensures
