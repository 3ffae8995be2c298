use Rattle.gltf_json.specs.Alike.{alike_in_each_member}
use Rattle.gltf_json.proofs.laws.what_shows_the_same_is_alike_in_each_member.Goals as goal

pub returns : goal.returns
returns c = alike_in_each_member
