use Rattle.gltf_detach.proofs.naming.buffer_name.Goals as goal

pub returns-then-count-eq1 : goal.returns-then-count-eq1
returns-then-count-eq1 c = rw c.if-count-eq1.true c.format.ensures.ok
