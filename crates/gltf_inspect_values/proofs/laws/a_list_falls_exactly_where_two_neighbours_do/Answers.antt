use Rattle.gltf_inspect_values.proofs.Neighbours.{neighbours_fall}
use Rattle.gltf_inspect_values.proofs.laws.a_list_falls_exactly_where_two_neighbours_do.Goals as goal

pub returns : goal.returns
returns g c stands xs = neighbours_fall stands xs
