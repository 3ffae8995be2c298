use Rattle.std.proofs.lemmas.Result.{err_from_is_err_and}
use Rattle.std.specs.Cow.{cow_slice_items}
use Rattle.gltf.specs.Shown.{blob_bytes, bytes_of_each}
use Rattle.gltf_options.specs.Besides.{listed}
use Rattle.gltf_options.specs.Names.{texts}
use Rattle.gltf_options.proofs.WithBuffers.{not_accepted_of_none, refuses_buffers, not_accepted}
use Rattle.gltf_options.proofs.WithBuffers.{one_import}
use Rattle.gltf_buffers.specs.Buffers.{sources_of}
use Rattle.gltf_options.proofs.Room.{blob_stays}
use Rattle.gltf_options.proofs.imports.import_bytes.Goals as goal

pub returns-in_err-opened-clause-exact : goal.returns-in_err-opened-clause-exact
returns-in_err-opened-clause-exact g c = λ known.
    let passed = err_from_is_err_and c.from_residual.result c.from_residual.ensures.1 in
    let exact = c.in_err-opened.ensures.exact in
    rw (passed.1, passed.2) (λ other fine. not_accepted_of_none (listed c.args.options.now)
    (g.N.Ask.names c.args.names.now) (cow_slice_items c.args.bytes) (exact other))

pub returns-in_err-buffers-clause-refused : goal.returns-in_err-buffers-clause-refused
returns-in_err-buffers-clause-refused g c =
    let exit = c.from_residual-in_err-buffers in
    let passed = err_from_is_err_and exit.result exit.ensures.1 in
    let file = c.in_ok-opened.opened in
    rw (passed.1, passed.2)
    (refuses_buffers (listed c.args.options.now) (g.N.Ask.names c.args.names.now)
    (cow_slice_items c.args.bytes) file.gltf.document (texts file.also_required.items)
    (blob_bytes file.gltf.blob) (g.N.Ask.failures c.args.names.now)
    (g.N.Ask.failures c.read_buffers.new.names) c.in_err-buffers.field-0.0
    c.in_ok-opened.ensures.valid
    (rw (c.deref.ensures.value, c.as_json.ensures) at c.in_err-buffers.ensures.err))

pub returns-in_err-buffers-clause-exact : goal.returns-in_err-buffers-clause-exact
returns-in_err-buffers-clause-exact g c = λ known.
    let exit = c.from_residual-in_err-buffers in
    let passed = err_from_is_err_and exit.result exit.ensures.1 in
    let file = c.in_ok-opened.opened in
    rw (passed.1, passed.2)
    (not_accepted (listed c.args.options.now) (g.N.Ask.names c.args.names.now)
    (cow_slice_items c.args.bytes) file.gltf.document (texts file.also_required.items)
    (blob_bytes file.gltf.blob) (g.N.Ask.failures c.args.names.now)
    (g.N.Ask.failures c.read_buffers.new.names) c.in_err-buffers.field-0.0
    c.what_shows_the_same_is_alike_in_each_member.ensures known
    c.in_ok-opened.ensures.only
    (rw (c.deref.ensures.value, c.as_json.ensures) at c.in_err-buffers.ensures.err))

pub returns-clause-only : goal.returns-clause-only
returns-clause-only g c = λ known.
    let file = c.in_ok-opened.opened in
    one_import (listed c.args.options.now) (g.N.Ask.names c.args.names.now)
    (cow_slice_items c.args.bytes) file.gltf.document (texts file.also_required.items)
    (blob_bytes file.gltf.blob) (bytes_of_each c.in_ok-buffers.buffers.items)
    c.what_shows_the_same_is_alike_in_each_member.ensures known
    c.in_ok-opened.ensures.only
    (rw (c.deref.ensures.value, c.as_json.ensures) at c.in_ok-buffers.ensures.ok)

pub returns-clause-moved : goal.returns-clause-moved
returns-clause-moved g c =
    let file = c.in_ok-opened.opened in
    let parts = c.in_ok-opened.ensures.valid.document.document.parts in
    blob_stays c.one_text_and_blob.ensures c.args.bytes _ file.gltf.blob
    (sources_of file.gltf.document) c.in_ok-buffers.buffers.items parts
    c.in_ok-opened.ensures.moved
    (rw (c.deref.ensures.value, c.as_json.ensures) at c.in_ok-buffers.ensures.moved)
