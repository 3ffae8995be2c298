use Rattle.gltf_buffers.specs.Names.{names_of}
use Rattle.gltf_lenient.proofs.Files.{only_file, err_not_file}
use Rattle.gltf_lenient.proofs.imports.import_from_with.Goals as goal

pub returns-clause-only : goal.returns-clause-only
returns-clause-only g c = λ known.
    let only = rw c.in_ok-bytes.ensures.kept
    at c.import_bytes.ensures.only in
    only_file c.args.options.now (names_of (g.S.NamedBytes.bytes_by_name c.args.source.now))
    c.args.path.now c.in_ok-bytes.bytes.items c.import_bytes.result known
    c.in_ok-bytes.ensures.gives (only known)

pub returns-clause-exact : goal.returns-clause-exact
returns-clause-exact g c = λ known.
    let exact = rw c.in_ok-bytes.ensures.kept
    at c.import_bytes.ensures.exact in
    err_not_file c.args.options.now (names_of (g.S.NamedBytes.bytes_by_name c.args.source.now))
    c.args.path.now c.in_ok-bytes.bytes.items c.import_bytes.result known
    c.in_ok-bytes.ensures.gives (exact known)
