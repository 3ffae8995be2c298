use Rattle.std.proofs.Common.{ℕ, List}
use Rattle.std.proofs.lemmas.Result.{err_from_is_err_and}
use Rattle.gltf.specs.Import.{RefusesText, IsNoDocument}
use Rattle.gltf.proofs.Readers.{given_behind_none, stopped_file, refused_file}
use Rattle.gltf.proofs.Readers.{text_of_layers}
use Rattle.gltf.proofs.file.Gltf.from_reader_without_validation.Goals as goal

pub returns-in_err-read_file : goal.returns-in_err-read_file
returns-in_err-read_file g c =
    let came : List ℕ = c.read_file.new.bytes.items in
    let left = g.R.Read.remaining c.read_file.new.reader in
    let passed = err_from_is_err_and c.from_residual.result c.from_residual.ensures.1 in
    let why =
    stopped_file RefusesText IsNoDocument left came c.in_err-read_file.field-0.0
    (λ none. none) c.in_err-read_file.ensures.stopped in
    given_behind_none came c.new-bytes.ensures.items c.read_file.ensures.came
    c.read_file.ensures.within
    (rw (passed.1, passed.2) (record { told = why.0; exact = why.1 }))

pub returns-in_err-document : goal.returns-in_err-document
returns-in_err-document g c =
    let came : List ℕ = c.read_file.new.bytes.items in
    let left = g.R.Read.remaining c.read_file.new.reader in
    let e = c.in_err-document.field-0.0 in
    let exit = c.from_residual-in_err-document in
    let passed = err_from_is_err_and exit.result exit.ensures.1 in
    let why =
    refused_file RefusesText IsNoDocument left came e c.whole_bytes_decide.ensures
    c.in_ok-read_file.ensures.all (text_of_layers came) c.in_err-document.ensures.refused
    c.in_err-document.ensures.exact in
    given_behind_none came c.new-bytes.ensures.items c.read_file.ensures.came
    c.read_file.ensures.within
    (rw (passed.1, passed.2) (record { told = why.0; exact = why.1 }))

pub returns : goal.returns
returns g c =
    given_behind_none c.read_file.new.bytes.items c.new-bytes.ensures.items
    c.read_file.ensures.came c.read_file.ensures.within
    (record {
      all = c.in_ok-read_file.ensures.all;
      document = c.in_ok-document.ensures.document;
      only = c.in_ok-document.ensures.only;
    })
