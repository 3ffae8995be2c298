use Rattle.gltf_lenient.proofs.Unmended.{unmended}
use Rattle.gltf_lenient.proofs.laws.what_asks_for_nothing_mends_nothing.Goals as goal

pub returns : goal.returns
returns c = λ mends asks. record {
  stays = λ bytes text blob d parts reads. unmended mends text d asks reads;
}
