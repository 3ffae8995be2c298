use Rattle.gltf.proofs.imports.buffers.import_each_buffer_from.Goals as goal

pub returns-in-Some-clause-noted : goal.returns-in-Some-clause-noted
returns-in-Some-clause-noted g c =
    rw c.in-Some.is (rw (c.deref.ensures.value, c.as_json.ensures)
    at c.read_each_buffer.ensures.noted)

pub returns-in-Some-clause-err : goal.returns-in-Some-clause-err
returns-in-Some-clause-err g c = rw c.in-Some.is c.read_each_buffer.ensures.err

pub returns-in-Some-clause-kept : goal.returns-in-Some-clause-kept
returns-in-Some-clause-kept g c = rw c.in-Some.is c.read_each_buffer.ensures.kept
