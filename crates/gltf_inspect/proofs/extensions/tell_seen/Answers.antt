use Rattle.gltf_validation.specs.Locations.{places_of}
use Rattle.gltf_inspect_meshes.specs.Names.{has_name}
use Rattle.gltf_inspect.proofs.Seen.{next_unseen}
use Rattle.gltf_inspect.proofs.extensions.tell_seen.Goals as goal

pub loop-i-preserved : goal.loop-i-preserved
loop-i-preserved c =
    next_unseen (has_name c.loop-i.seen) (has_name c.add.new.self) c.args.names.now c.loop-i.i
    c.index-names-i.result c.in_ok-was_seen.was_seen c.loop-i.findings c.tell.new.self _
    (places_of c.args.location.now) c.loop-i-test.true c.index-names-i.is
    c.in_ok-was_seen.ensures.was c.in_ok-was_seen.ensures.now c.in_ok-tell.ensures
    c.loop-i.invariant
