use Rattle.std.proofs.lemmas.Result.{err_from_is_err_and}
use Rattle.gltf_data.specs.Iter.{counted_items}
use Rattle.gltf.specs.Primitives.{PositionsAt}
use Rattle.gltf.specs.Shown.{bytes_of_each}
use Rattle.gltf.proofs.Imported.{list_read, memory_refuses, only_memory}
use Rattle.gltf.proofs.primitives.read_positions.Goals as goal

pub returns-in_err-document-clause-exact : goal.returns-in_err-document-clause-exact
returns-in_err-document-clause-exact c =
    let passed = err_from_is_err_and c.from_residual.result c.from_residual.ensures.1 in
    rw (passed.1, passed.2) c.in_err-document.ensures.exact

pub returns-clause-read : goal.returns-clause-read
returns-clause-read c =
    list_read (λ it. (counted_items it).items) (PositionsAt c.args.mesh c.args.primitive)
    c.args.bytes.now c.imported_positions.result c.listed.result
    (c.typed_primitives_are_of_the_bytes.ensures.positions c.args.mesh c.args.primitive
    c.args.bytes.now c.in_ok-document.document (bytes_of_each c.in_ok-document.buffers.items)
    (record {
      accepted = c.in_ok-document.ensures.accepted;
      only = c.in_ok-document.ensures.only;
    })
    c.imported_positions.result
    (rw c.deref.ensures.value at c.imported_positions.ensures.positions))
    c.listed.ensures.ok

pub returns-clause-refused : goal.returns-clause-refused
returns-clause-refused c = memory_refuses c.args.bytes.now c.listed.result c.listed.ensures.refused

pub returns-clause-exact : goal.returns-clause-exact
returns-clause-exact c = only_memory c.args.bytes.now c.listed.result c.listed.ensures.refused
