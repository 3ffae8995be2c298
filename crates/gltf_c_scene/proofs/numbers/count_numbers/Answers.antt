use Rattle.std.specs.Option.{option_copied}
use Rattle.gltf_c_scene.specs.Values.{listed_numbers}
use Rattle.gltf_c_scene.proofs.Listed.{count_of_values}
use Rattle.gltf_c_scene.proofs.numbers.count_numbers.Goals as goal

pub returns : goal.returns
returns c =
    count_of_values c.number_values.result.now (listed_numbers (option_copied c.args.member))
    c.number_values.ensures
