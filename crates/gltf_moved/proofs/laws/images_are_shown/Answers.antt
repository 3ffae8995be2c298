use Rattle.gltf_moved.proofs.Images.{shows_images}
use Rattle.gltf_moved.proofs.laws.images_are_shown.Goals as goal

pub returns : goal.returns
returns c = shows_images
