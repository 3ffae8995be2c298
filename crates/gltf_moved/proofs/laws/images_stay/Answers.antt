use Rattle.gltf_moved.proofs.Others.{keeps_images}
use Rattle.gltf_moved.proofs.laws.images_stay.Goals as goal

pub returns : goal.returns
returns c = keeps_images
