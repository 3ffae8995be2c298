use Rattle.gltf_read.proofs.Nexts.{nth_next}
use Rattle.gltf_read.proofs.laws.nth_target_is_next.Goals as goal

pub returns : goal.returns
returns g c old new n given h = nth_next old new n given h
