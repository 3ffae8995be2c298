use Rattle.std.proofs.Common.{inl}
use Rattle.std.proofs.lemmas.Result.{err_from_is_err_and}
use Rattle.gltf_buffers.specs.Names.{names_of}
use Rattle.gltf.specs.Shown.{blob_bytes}
use Rattle.gltf.proofs.Files.{ok_file, only_file, not_file, err_not_file, err_file, path_failed}
use Rattle.gltf.proofs.Files.{refuses_behind}
use Rattle.gltf.proofs.WithBuffers.{ok_accepted, ok_only, err_buffers, err_exact}
use Rattle.gltf.proofs.WithBuffers.{refuses_document}
use Rattle.gltf.proofs.imports.import_from.Goals as goal

pub returns-in_err-bytes-clause-refused : goal.returns-in_err-bytes-clause-refused
returns-in_err-bytes-clause-refused g c =
    let passed = err_from_is_err_and c.from_residual.result c.from_residual.ensures.1 in
    rw (passed.1, passed.2) (inl c.in_err-bytes.ensures.unanswered)

pub returns-in_err-bytes-clause-exact : goal.returns-in_err-bytes-clause-exact
returns-in_err-bytes-clause-exact g c = λ known.
    let held = g.S.NamedBytes.bytes_by_name c.args.source.now in
    let passed = err_from_is_err_and c.from_residual.result c.from_residual.ensures.1 in
    rw (passed.1, passed.2) (path_failed held c.args.path.now _ _ c.in_err-bytes.field-0.0
    c.in_err-bytes.ensures.unanswered)

pub returns-in_err-document-clause-refused : goal.returns-in_err-document-clause-refused
returns-in_err-document-clause-refused g c =
    let names = names_of (g.S.NamedBytes.bytes_by_name c.args.source.now) in
    let old = g.S.NamedBytes.failures c.args.source.now in
    let new = g.S.NamedBytes.failures c.ask.new.self in
    let e = c.in_err-document.field-0.0 in
    let exit = c.from_residual-in_err-document in
    let passed = err_from_is_err_and exit.result exit.ensures.1 in
    rw (passed.1, passed.2) (refuses_behind names c.args.path.now c.in_ok-bytes.bytes.items old
    new e c.in_ok-bytes.ensures.gives c.in_ok-bytes.ensures.fine
    (refuses_document names c.in_ok-bytes.bytes.items old e c.in_err-document.ensures.refused))

pub returns-in_err-document-clause-exact : goal.returns-in_err-document-clause-exact
returns-in_err-document-clause-exact g c = λ known.
    let names = names_of (g.S.NamedBytes.bytes_by_name c.args.source.now) in
    let path = c.args.path.now in
    let exit = c.from_residual-in_err-document in
    let passed = err_from_is_err_and exit.result exit.ensures.1 in
    rw (passed.1, passed.2) (λ other fine. not_file names path c.in_ok-bytes.bytes.items known
    c.in_ok-bytes.ensures.gives (λ s buffers accepted.
    c.in_err-document.ensures.exact other s accepted.blob accepted.valid))

pub returns-clause-accepted : goal.returns-clause-accepted
returns-clause-accepted g c =
    let names = names_of (g.S.NamedBytes.bytes_by_name c.args.source.now) in
    let bytes = c.in_ok-bytes.bytes.items in
    ok_file names c.args.path.now bytes c.with_buffers.result c.in_ok-bytes.ensures.gives
    (ok_accepted names bytes c.in_ok-document.document (blob_bytes c.in_ok-document.blob)
    c.with_buffers.result c.in_ok-document.ensures.valid c.with_buffers.ensures.same
    (rw c.in_ok-bytes.ensures.kept at c.with_buffers.ensures.bytes))

pub returns-clause-only : goal.returns-clause-only
returns-clause-only g c = λ known.
    let names = names_of (g.S.NamedBytes.bytes_by_name c.args.source.now) in
    let bytes = c.in_ok-bytes.bytes.items in
    only_file names c.args.path.now bytes c.with_buffers.result known c.in_ok-bytes.ensures.gives
    (ok_only names bytes c.in_ok-document.document (blob_bytes c.in_ok-document.blob)
    c.with_buffers.result c.what_shows_the_same_is_alike_in_each_member.ensures known
    c.in_ok-document.ensures.only c.with_buffers.ensures.same
    (rw c.in_ok-bytes.ensures.kept at c.with_buffers.ensures.bytes))

pub returns-clause-refused : goal.returns-clause-refused
returns-clause-refused g c =
    let names = names_of (g.S.NamedBytes.bytes_by_name c.args.source.now) in
    let bytes = c.in_ok-bytes.bytes.items in
    let old = g.S.NamedBytes.failures c.args.source.now in
    let new = g.S.NamedBytes.failures c.with_buffers.new.names in
    err_file names c.args.path.now bytes old new c.with_buffers.result
    c.in_ok-bytes.ensures.gives
    (err_buffers names bytes c.in_ok-document.document (blob_bytes c.in_ok-document.blob)
    old new c.with_buffers.result c.in_ok-document.ensures.valid
    (rw (c.in_ok-bytes.ensures.kept, c.in_ok-bytes.ensures.fine) at c.with_buffers.ensures.err))

pub returns-clause-exact : goal.returns-clause-exact
returns-clause-exact g c = λ known.
    let names = names_of (g.S.NamedBytes.bytes_by_name c.args.source.now) in
    let bytes = c.in_ok-bytes.bytes.items in
    let old = g.S.NamedBytes.failures c.args.source.now in
    let new = g.S.NamedBytes.failures c.with_buffers.new.names in
    err_not_file names c.args.path.now bytes c.with_buffers.result known
    c.in_ok-bytes.ensures.gives
    (err_exact names bytes c.in_ok-document.document (blob_bytes c.in_ok-document.blob)
    old new c.with_buffers.result c.what_shows_the_same_is_alike_in_each_member.ensures known
    c.in_ok-document.ensures.only
    (rw (c.in_ok-bytes.ensures.kept, c.in_ok-bytes.ensures.fine) at c.with_buffers.ensures.err))
