use Rattle.gltf_mended.specs.Whole.{leaves_whole}
use Rattle.gltf_mended.proofs.laws.what_is_read_is_left_whole.Goals as goal

pub returns : goal.returns
returns c = leaves_whole
