use Rattle.std.proofs.Common.{[]}
use Rattle.std.proofs.lemmas.Result.{err_from_is_err_and}
use Rattle.gltf_buffers.specs.Names.{Nowhere}
use Rattle.gltf.specs.Shown.{blob_bytes}
use Rattle.gltf.proofs.WithBuffers.{ok_accepted, ok_only, err_buffers}
use Rattle.gltf.proofs.WithBuffers.{nowhere_refused, nowhere_exact}
use Rattle.gltf.proofs.imports.import_slice.Goals as goal

pub returns-in_err-document-clause-exact : goal.returns-in_err-document-clause-exact
returns-in_err-document-clause-exact c =
    let passed = err_from_is_err_and c.from_residual.result c.from_residual.ensures.1 in
    rw (passed.1, passed.2) (λ other s buffers accepted.
    c.in_err-document.ensures.exact other s accepted.blob accepted.valid)

pub returns-clause-accepted : goal.returns-clause-accepted
returns-clause-accepted c =
    ok_accepted Nowhere c.args.bytes.now c.in_ok-document.document
    (blob_bytes c.in_ok-document.blob) c.with_buffers.result c.in_ok-document.ensures.valid
    c.with_buffers.ensures.same c.with_buffers.ensures.bytes

pub returns-clause-only : goal.returns-clause-only
returns-clause-only c =
    ok_only Nowhere c.args.bytes.now c.in_ok-document.document
    (blob_bytes c.in_ok-document.blob) c.with_buffers.result
    c.what_shows_the_same_is_alike_in_each_member.ensures tt c.in_ok-document.ensures.only
    c.with_buffers.ensures.same c.with_buffers.ensures.bytes

pub returns-clause-refused : goal.returns-clause-refused
returns-clause-refused c =
    nowhere_refused c.args.bytes.now [] [] c.with_buffers.result
    (err_buffers Nowhere c.args.bytes.now c.in_ok-document.document
    (blob_bytes c.in_ok-document.blob) [] [] c.with_buffers.result c.in_ok-document.ensures.valid
    c.with_buffers.ensures.err)

pub returns-clause-exact : goal.returns-clause-exact
returns-clause-exact c =
    nowhere_exact c.args.bytes.now c.in_ok-document.document (blob_bytes c.in_ok-document.blob)
    [] [] c.with_buffers.result c.what_shows_the_same_is_alike_in_each_member.ensures
    c.in_ok-document.ensures.only c.with_buffers.ensures.err
