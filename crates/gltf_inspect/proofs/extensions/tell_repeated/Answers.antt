use Rattle.std.proofs.Common.{[]}
use Rattle.gltf_inspect_meshes.specs.Names.{has_name}
use Rattle.gltf_inspect.proofs.Seen.{same_unique}
use Rattle.gltf_inspect.proofs.extensions.tell_repeated.Goals as goal

pub returns : goal.returns
returns c =
    rw (← same_unique (has_name c.new-seen.result) [] 0 c.args.names.now c.new-seen.ensures)
    c.tell_seen.ensures
