use Rattle.gltf_inspect_files.proofs.LeftOut.{each_is_told, no_more_found, no_less_found}
use Rattle.gltf_inspect_files.proofs.laws.of_what_is_not_left_out_the_same_is_found.Goals as goal

pub returns-clause-told : goal.returns-clause-told
returns-clause-told c = each_is_told

pub returns-clause-no_more : goal.returns-clause-no_more
returns-clause-no_more c = no_more_found

pub returns-clause-no_less : goal.returns-clause-no_less
returns-clause-no_less c = no_less_found
