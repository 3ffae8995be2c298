use Rattle.std.proofs.Common.{ℕ, List}
use Rattle.std.proofs.lemmas.Result.{err_from_is_err_and}
use Rattle.gltf_lenient.proofs.Readers.{given_behind_none, stopped, read_whole}
use Rattle.gltf_lenient.proofs.file.from_reader_with.Goals as goal

pub returns-in_err-read_file : goal.returns-in_err-read_file
returns-in_err-read_file g c =
    let came : List ℕ = c.read_file.new.bytes.items in
    let left = g.R.Read.remaining c.read_file.new.reader in
    let passed = err_from_is_err_and c.from_residual.result c.from_residual.ensures.1 in
    given_behind_none came c.new-bytes.ensures.items c.read_file.ensures.came
    c.read_file.ensures.within
    (rw (passed.1, passed.2)
    (stopped c.args.options.now left came c.in_err-read_file.field-0.0
    c.in_err-read_file.ensures.stopped))

pub returns : goal.returns
returns g c =
    let came : List ℕ = c.read_file.new.bytes.items in
    let left = g.R.Read.remaining c.read_file.new.reader in
    given_behind_none came c.new-bytes.ensures.items c.read_file.ensures.came
    c.read_file.ensures.within
    (read_whole c.args.options.now left came c.from_bytes_with.result
    c.whole_bytes_decide.ensures c.in_ok-read_file.ensures.all c.from_bytes_with.ensures.valid
    c.from_bytes_with.ensures.only c.from_bytes_with.ensures.refused
    c.from_bytes_with.ensures.exact)
