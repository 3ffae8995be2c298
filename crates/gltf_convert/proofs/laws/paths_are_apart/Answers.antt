use Rattle.gltf_convert.proofs.Apart.{paths_apart}
use Rattle.gltf_convert.proofs.laws.paths_are_apart.Goals as goal

pub returns : goal.returns
returns c = λ required names path stem keep drop set is base.
    paths_apart stem base set (c.names_are_apart.ensures required names path stem keep drop set is)
