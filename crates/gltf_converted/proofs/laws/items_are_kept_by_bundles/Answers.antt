use Rattle.std.specs.Prelude.{string_bytes}
use Rattle.gltf_buffers.specs.Names.{Held}
use Rattle.gltf_converted.proofs.Sources.{held_read, both}
use Rattle.gltf_converted.proofs.laws.items_are_kept_by_bundles.Goals as goal

pub returns : goal.returns
returns g c required names path stem keep drop set is there holds other held passing alike kept
    answer bundle reading same over s others accepts index result =
    let text = held_read passing there other (string_bytes set.json) bundle.value bundle.root_
    bundle.buffers held bundle.gathered.source in
    both
    (c.items_are_kept.ensures required names path stem keep drop set is passing alike there holds
    bundle.root_ bundle.buffers text index result)
    (c.items_are_kept-2.ensures passing (Held there) other kept answer bundle reading same over s
    others accepts index result)
