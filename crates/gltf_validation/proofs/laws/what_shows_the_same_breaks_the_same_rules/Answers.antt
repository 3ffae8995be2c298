use Rattle.gltf_validation.proofs.AlikeDocuments.{faults_alike}
use Rattle.gltf_validation.proofs.laws.what_shows_the_same_breaks_the_same_rules.Goals as goal

pub returns : goal.returns
returns c =
    λ r s same. faults_alike r s (c.what_shows_the_same_is_alike_in_each_member.ensures r s same)
