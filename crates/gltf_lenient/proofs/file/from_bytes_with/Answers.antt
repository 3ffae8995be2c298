use Rattle.std.proofs.lemmas.Result.{err_from_is_err_and}
use Rattle.std.specs.Cow.{cow_slice_items}
use Rattle.gltf.specs.Shown.{blob_bytes}
use Rattle.gltf_lenient.proofs.Documents.{ok_valid, ok_only, err_refused, err_exact}
use Rattle.gltf_lenient.proofs.file.from_bytes_with.Goals as goal

pub returns-in_err-raw-clause-exact : goal.returns-in_err-raw-clause-exact
returns-in_err-raw-clause-exact c =
    let passed = err_from_is_err_and c.from_residual.result c.from_residual.ensures.1 in
    rw (passed.1, passed.2) (λ other s taken blob valid.
    c.in_err-raw.ensures.exact other valid.document.whole blob valid.document.document)

pub returns-clause-valid : goal.returns-clause-valid
returns-clause-valid c =
    ok_valid c.args.options.now (cow_slice_items c.args.bytes) c.in_ok-raw.raw.document
    c.in_ok-raw.raw.blob c.without_names.result c.in_ok-raw.ensures.document
    c.without_names.ensures.opened

pub returns-clause-only : goal.returns-clause-only
returns-clause-only c =
    ok_only c.args.options.now (cow_slice_items c.args.bytes) c.in_ok-raw.raw.document
    c.in_ok-raw.raw.blob c.without_names.result
    c.what_shows_the_same_is_left_alike.ensures c.in_ok-raw.ensures.only
    c.without_names.ensures.opened

pub returns-clause-refused : goal.returns-clause-refused
returns-clause-refused c =
    err_refused c.args.options.now (cow_slice_items c.args.bytes) c.in_ok-raw.raw.document
    (blob_bytes c.in_ok-raw.raw.blob) c.without_names.result c.in_ok-raw.ensures.document
    c.without_names.ensures.refused

pub returns-clause-exact : goal.returns-clause-exact
returns-clause-exact c =
    err_exact c.args.options.now (cow_slice_items c.args.bytes) c.in_ok-raw.raw.document
    (blob_bytes c.in_ok-raw.raw.blob) c.without_names.result
    c.what_shows_the_same_breaks_the_same_rules_besides.ensures
    c.the_same_rules_are_broken_without_the_names.ensures c.in_ok-raw.ensures.only
    c.without_names.ensures.refused
