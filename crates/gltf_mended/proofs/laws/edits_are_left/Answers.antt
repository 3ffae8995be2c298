use Rattle.gltf_mended.specs.Left.{put_mended}
use Rattle.gltf_mended.proofs.laws.edits_are_left.Goals as goal

pub returns : goal.returns
returns c = put_mended
