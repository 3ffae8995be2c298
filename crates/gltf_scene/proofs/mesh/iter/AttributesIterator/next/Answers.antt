use Rattle.std.proofs.Common.{refl}
use Rattle.gltf_scene.proofs.mesh.iter.AttributesIterator.next.Goals as goal

pub returns-clause-steps : goal.returns-clause-steps
returns-clause-steps g c =
    let taken = c.in_ok-semantic.ensures.steps in
    let found = c.new.ensures in
    record {
      document = refl;
      entries = rw taken refl;
      item = (
        (c.in_ok-semantic.semantic.now, c.in_ok-semantic.index.now),
        rw taken refl,
        (refl, rw (← c.value.ensures) found),
      );
    }
