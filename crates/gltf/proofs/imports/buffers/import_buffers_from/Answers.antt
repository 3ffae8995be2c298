use Rattle.gltf.proofs.imports.buffers.import_buffers_from.Goals as goal

pub returns-in-Some-clause-err : goal.returns-in-Some-clause-err
returns-in-Some-clause-err g c =
    rw c.in-Some.is (rw (c.deref.ensures.value, c.as_json.ensures) at c.read_buffers.ensures.err)

pub returns-in-Some-clause-fine : goal.returns-in-Some-clause-fine
returns-in-Some-clause-fine g c = rw c.in-Some.is c.read_buffers.ensures.fine

pub returns-in-Some-clause-kept : goal.returns-in-Some-clause-kept
returns-in-Some-clause-kept g c = rw c.in-Some.is c.read_buffers.ensures.kept
