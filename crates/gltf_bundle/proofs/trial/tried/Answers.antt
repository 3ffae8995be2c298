use Rattle.std.proofs.Common.{[]}
use Rattle.std.proofs.lemmas.Result.{err_from_is_err_and}
use Rattle.gltf_glb.specs.Glb.{items_of}
use Rattle.gltf.specs.Shown.{bytes_of_each}
use Rattle.gltf_bundle.proofs.Tried.{is_accepted, document_told, buffers_told}
use Rattle.gltf_bundle.proofs.trial.tried.Goals as goal

pub returns-in_err-document-clause-refused : goal.returns-in_err-document-clause-refused
returns-in_err-document-clause-refused c =
    let passed = err_from_is_err_and c.from_residual.result c.from_residual.ensures.1 in
    rw (passed.1, passed.2)
    (document_told c.args.required.now c.args.bytes.now c.in_err-document.field-0.0
    c.in_err-document.ensures.refused)

pub returns-then-is_the_one-clause-accepted : goal.returns-then-is_the_one-clause-accepted
returns-then-is_the_one-clause-accepted c =
    let are = c.is_the_one.ensures c.if-is_the_one.true in
    let all = rw (c.as_slice-buffers.ensures.value, c.as_json.ensures) at are in
    is_accepted c.args.required.now c.args.bytes.now c.in_ok-document.document
    (items_of c.in_ok-document.blob) all.0
    c.in_ok-document.ensures.opened all.1

pub returns-in_err-read_buffers-clause-refused : goal.returns-in_err-read_buffers-clause-refused
returns-in_err-read_buffers-clause-refused c =
    let exit = c.from_residual-in_err-read_buffers in
    let passed = err_from_is_err_and exit.result exit.ensures.1 in
    let fails =
    rw (c.as_slice-buffers.ensures.value, c.as_json.ensures, c.in_ok-blob.ensures.ok) at
    c.in_err-read_buffers.ensures.err in
    rw (passed.1, passed.2)
    (buffers_told c.args.required.now c.args.bytes.now c.in_ok-document.document
    (items_of c.in_ok-document.blob) [] []
    c.in_err-read_buffers.field-0.0 c.in_ok-document.ensures.opened fails)

pub returns-clause-accepted : goal.returns-clause-accepted
returns-clause-accepted c =
    let are =
    rw (c.as_slice-buffers.ensures.value, c.as_json.ensures, c.in_ok-blob.ensures.ok) at
    c.in_ok-read_buffers.ensures.ok in
    is_accepted c.args.required.now c.args.bytes.now c.in_ok-document.document
    (items_of c.in_ok-document.blob)
    (bytes_of_each c.in_ok-read_buffers.field-0.items) c.in_ok-document.ensures.opened are
