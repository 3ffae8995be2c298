use Rattle.std.proofs.lemmas.Result.{err_from_is_err_and}
use Rattle.gltf.specs.Shown.{blob_bytes}
use Rattle.gltf_options.specs.Besides.{listed}
use Rattle.gltf_options.proofs.Documents.{err_exact}
use Rattle.gltf_options.proofs.Readers.{refuses_too, read_file}
use Rattle.gltf_options.proofs.file.from_reader_with.Goals as goal

pub returns-in_err-raw : goal.returns-in_err-raw
returns-in_err-raw g c =
    let read = c.in_err-raw.ensures in
    let left = g.R.Read.remaining c.from_reader_without_validation.new.reader in
    let passed = err_from_is_err_and c.from_residual.result c.from_residual.ensures.1 in
    record {
      came = read.came;
      reads = read.reads;
      within = read.within;
      answer =
          rw (passed.1, passed.2)
          (refuses_too (listed c.args.options.now) left read.came c.in_err-raw.field-0.0
          read.answer);
    }

pub returns : goal.returns
returns g c =
    let read = c.in_ok-raw.ensures in
    let also = listed c.args.options.now in
    let left = g.R.Read.remaining c.from_reader_without_validation.new.reader in
    let whole = c.in_ok-raw.raw.document in
    let blob = c.in_ok-raw.raw.blob in
    let alike = c.what_shows_the_same_is_alike_in_each_member.ensures in
    record {
      came = read.came;
      reads = read.reads;
      within = read.within;
      answer =
          read_file also left read.came whole blob c.without_names.result alike read.answer
          c.without_names.ensures.opened c.without_names.ensures.refused
          (err_exact also read.came whole (blob_bytes blob) c.without_names.result alike
          c.what_shows_the_same_breaks_the_same_rules.ensures read.answer.only
          c.without_names.ensures.refused);
    }
