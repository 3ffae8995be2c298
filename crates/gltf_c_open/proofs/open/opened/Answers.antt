use Rattle.std.proofs.Common.{map, refl}
use Rattle.std.proofs.lemmas.Result.{err_from_is_err_and}
use Rattle.std.specs.Cow.{cow_slice_items}
use Rattle.gltf.specs.Shown.{blob_bytes}
use Rattle.gltf_options.specs.Names.{texts}
use Rattle.gltf_c_open.proofs.Opened.{held, document_refused, buffer_refused}
use Rattle.gltf_c_open.proofs.open.opened.Goals as goal

pub returns-in_err-gltf-clause-refused : goal.returns-in_err-gltf-clause-refused
returns-in_err-gltf-clause-refused c =
    let passed = err_from_is_err_and c.from_residual.result c.from_residual.ensures.1 in
    rw (passed.1, passed.2)
    (document_refused c.args.wanted (map (λ k. k.now) c.args.also.now)
    (cow_slice_items c.args.bytes) c.in_err-gltf.field-0.0
    c.in_err-gltf.ensures.refused c.in_err-gltf.ensures.exact)

pub returns-in_err-buffers-clause-refused : goal.returns-in_err-buffers-clause-refused
returns-in_err-buffers-clause-refused c =
    let exit = c.from_residual-in_err-buffers in
    let passed = err_from_is_err_and exit.result exit.ensures.1 in
    let file = c.in_ok-gltf.field-0 in
    rw (passed.1, passed.2)
    (buffer_refused c.args.wanted (map (λ k. k.now) c.args.also.now)
    (cow_slice_items c.args.bytes) file.gltf.document (texts file.also_required.items)
    (blob_bytes file.gltf.blob) c.in_err-buffers.field-0.0
    c.what_shows_the_same_has_the_same_buffers.ensures.none
    c.in_ok-gltf.ensures.valid c.in_ok-gltf.ensures.only
    (rw (c.deref.ensures.value, c.as_json.ensures) at c.in_err-buffers.ensures.err))

pub returns-clause-held : goal.returns-clause-held
returns-clause-held c =
    let file = c.in_ok-gltf.field-0 in
    held c.args.wanted (map (λ k. k.now) c.args.also.now) (cow_slice_items c.args.bytes) _
    (texts file.also_required.items) (blob_bytes file.gltf.blob)
    c.what_shows_the_same_has_the_same_buffers.ensures.one
    c.in_ok-gltf.ensures.valid c.in_ok-gltf.ensures.only
    (rw (c.deref.ensures.value, c.as_json.ensures) at c.in_ok-buffers.ensures.ok) refl
