use Rattle.std.proofs.Common.{rules}
use Rattle.gltf_buffers.proofs.data.Data.from_source_and_blob.Goals as goal

pub returns-in-Some-clause-err : goal.returns-in-Some-clause-err
returns-in-Some-clause-err g c = rw c.in-Some.is (search rules)

pub returns-in-Some-clause-fine : goal.returns-in-Some-clause-fine
returns-in-Some-clause-fine g c = rw c.in-Some.is c.data_of.ensures.fine

pub returns-in-Some-clause-kept : goal.returns-in-Some-clause-kept
returns-in-Some-clause-kept g c = rw c.in-Some.is c.data_of.ensures.kept
