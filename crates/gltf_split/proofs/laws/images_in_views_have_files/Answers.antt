use Rattle.gltf_split.proofs.Viewed.{has_files}
use Rattle.gltf_split.proofs.laws.images_in_views_have_files.Goals as goal

pub returns : goal.returns
returns c = has_files
