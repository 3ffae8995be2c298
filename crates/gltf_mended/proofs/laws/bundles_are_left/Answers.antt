use Rattle.gltf_mended.specs.Edited.{pictures_left, bundles_left, places_left}
use Rattle.gltf_mended.proofs.laws.bundles_are_left.Goals as goal

pub returns-clause-pictures : goal.returns-clause-pictures
returns-clause-pictures c = pictures_left

pub returns-clause-bundles : goal.returns-clause-bundles
returns-clause-bundles c = bundles_left

pub returns-clause-places : goal.returns-clause-places
returns-clause-places c = places_left
