use Rattle.gltf_buffers.specs.Names.{Held}
use Rattle.gltf_converted.proofs.Sources.{held_read, both}
use Rattle.gltf_converted.proofs.laws.items_are_kept_by_sets.Goals as goal

pub returns : goal.returns
returns g c required names path keep answer is from other held passing alike stem kept drop set
    split reading same there holds s others accepts index result =
    let container = held_read passing from other answer split.value split.root_ split.whole held
    split.source in
    both
    (c.items_are_kept.ensures required names path keep answer is passing alike (Held from)
    split.root_ split.whole container index result)
    (c.items_are_kept-2.ensures passing (Held from) other stem kept drop set split reading same there
    holds s others accepts index result)
