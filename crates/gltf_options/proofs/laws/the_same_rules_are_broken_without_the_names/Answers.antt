use Rattle.gltf_options.proofs.FaultsInFile.{faults_in_file}
use Rattle.gltf_options.proofs.laws.the_same_rules_are_broken_without_the_names.Goals as goal

pub returns : goal.returns
returns c = faults_in_file
