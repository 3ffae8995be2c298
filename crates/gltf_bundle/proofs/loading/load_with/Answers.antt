use Rattle.gltf_buffers.specs.Names.{names_of}
use Rattle.gltf.specs.Shown.{blob_bytes, bytes_of_each}
use Rattle.serde_json.specs.View.{view}
use Rattle.gltf_bundle.proofs.Sourced.{loaded}
use Rattle.gltf_bundle.proofs.Refused.{buffers_refused, document_refused}
use Rattle.gltf_bundle.proofs.loading.load_with.Goals as goal

pub returns-clause-loaded : goal.returns-clause-loaded
returns-clause-loaded g c =
    let names = names_of (g.S.NamedBytes.bytes_by_name c.args.source.now) in
    let bytes = c.in-Ok.bytes.items in
    let file = c.in-Ok-from_slice_as.file in
    let opened = rw c.deref.ensures.value at c.in-Ok-from_slice_as.ensures.opened in (
      opened.root,
      loaded c.one_text_and_blob.ensures c.args.required.now names c.args.path.now bytes
          c.in-Ok.ensures.gives file.document (blob_bytes file.blob) opened
          (view c.in_ok-value.value) (rw c.deref-2.ensures.value at c.in_ok-value.ensures.value)
          (bytes_of_each c.in-Ok-import_buffers_from.buffers.items)
          (rw c.in-Ok.ensures.kept at c.in-Ok-import_buffers_from.ensures.ok),
    )

pub returns-in-Err-import_buffers_from-clause-refused :
    goal.returns-in-Err-import_buffers_from-clause-refused
returns-in-Err-import_buffers_from-clause-refused g c =
    let names = names_of (g.S.NamedBytes.bytes_by_name c.args.source.now) in
    let file = c.in-Ok-from_slice_as.file in
    buffers_refused c.args.required.now names c.args.path.now c.in-Ok.bytes.items file.document
    (blob_bytes file.blob) (g.S.NamedBytes.failures c.args.source.now)
    (g.S.NamedBytes.failures c.import_buffers_from.new.names.0) c.in-Err-import_buffers_from.error
    c.in-Ok.ensures.gives (rw c.deref.ensures.value at c.in-Ok-from_slice_as.ensures.opened)
    (rw (c.in-Ok.ensures.kept, c.in-Ok.ensures.fine) at c.in-Err-import_buffers_from.ensures.err)

pub returns-in-Err-from_slice_as-clause-refused : goal.returns-in-Err-from_slice_as-clause-refused
returns-in-Err-from_slice_as-clause-refused g c =
    let names = names_of (g.S.NamedBytes.bytes_by_name c.args.source.now) in
    document_refused c.args.required.now names c.args.path.now c.in-Ok.bytes.items
    (g.S.NamedBytes.failures c.args.source.now) (g.S.NamedBytes.failures c.ask.new.self)
    c.in-Err-from_slice_as.error c.in-Ok.ensures.gives c.in-Ok.ensures.fine
    (rw c.deref.ensures.value at c.in-Err-from_slice_as.ensures.refused)
