use Rattle.std.proofs.lemmas.Result.{err_from_is_err_and}
use Rattle.std.specs.Cow.{cow_slice_items}
use Rattle.gltf_glb.specs.Glb.{items_of}
use Rattle.gltf_required.specs.Import.{RefusesValueAs}
use Rattle.gltf_required.proofs.Told.{container_told, text_told, rules_told, is_document}
use Rattle.gltf_required.proofs.Told.{is_opened}
use Rattle.gltf_required.proofs.file.document_as.Goals as goal

pub returns-in_err-text-clause-refused : goal.returns-in_err-text-clause-refused
returns-in_err-text-clause-refused c =
    let passed = err_from_is_err_and c.from_residual.result c.from_residual.ensures.1 in
    rw (passed.1, passed.2)
    (container_told c.args.required.now c.args.bytes.now c.in_err-text.field-0.0
    c.in_err-text.ensures.refused)

pub returns-in_err-root-clause-refused : goal.returns-in_err-root-clause-refused
returns-in_err-root-clause-refused c =
    let cause = c.in_err-root.field-0.0 in
    let exit = c.from_residual-in_err-root in
    let passed = err_from_is_err_and exit.result exit.ensures.1 in
    let fails : RefusesValueAs c.args.required.now (cow_slice_items c.in_ok-text.text) cause =
    rw c.as_slice.ensures.value at c.in_err-root.ensures.refused in
    rw (passed.1, passed.2)
    (text_told c.args.required.now c.args.bytes.now (cow_slice_items c.in_ok-text.text)
    (items_of c.in_ok-text.blob)
    cause c.in_ok-text.ensures.parts fails)

pub returns-in_err-document-clause-refused : goal.returns-in_err-document-clause-refused
returns-in_err-document-clause-refused c =
    let exit = c.from_residual-in_err-document in
    let passed = err_from_is_err_and exit.result exit.ensures.1 in
    let read = rw c.as_slice.ensures.value at c.in_ok-root.ensures.ok in
    rw (passed.1, passed.2)
    (rules_told c.args.required.now c.args.bytes.now c.in_ok-root.root (items_of c.in_ok-text.blob)
    c.in_err-document.field-0.0
    (is_document c.args.required.now c.args.bytes.now (cow_slice_items c.in_ok-text.text)
    (items_of c.in_ok-text.blob) c.in_ok-root.root c.in_ok-text.ensures.parts read)
    c.in_err-document.ensures.refused)

pub returns-clause-opened : goal.returns-clause-opened
returns-clause-opened c =
    let read = rw c.as_slice.ensures.value at c.in_ok-root.ensures.ok in
    is_opened c.args.required.now c.args.bytes.now (items_of c.in_ok-text.blob) c.in_ok-root.root
    c.in_ok-document.document
    (is_document c.args.required.now c.args.bytes.now (cow_slice_items c.in_ok-text.text)
    (items_of c.in_ok-text.blob) c.in_ok-root.root c.in_ok-text.ensures.parts read)
    c.in_ok-document.ensures.left c.in_ok-document.ensures.rules
