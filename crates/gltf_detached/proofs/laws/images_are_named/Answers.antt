use Rattle.gltf_detached.proofs.Named.{names_images}
use Rattle.gltf_detached.proofs.laws.images_are_named.Goals as goal

pub returns : goal.returns
returns c = names_images
