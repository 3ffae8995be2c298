use Rattle.std.proofs.lemmas.Result.{err_from_is_err_and}
use Rattle.gltf.specs.Shown.{blob_bytes}
use Rattle.gltf_options.specs.Besides.{listed}
use Rattle.gltf_options.proofs.Documents.{no_valid_of_none, ok_valid, ok_only, err_refused}
use Rattle.gltf_options.proofs.Documents.{err_exact}
use Rattle.std.specs.Prelude.{vec_capacity}
use Rattle.std.proofs.Common.{◌≡◌}
use Rattle.gltf_options.proofs.Room.{ok_moved}
use Rattle.gltf_options.proofs.file.from_vec_with.Goals as goal

pub returns-in_err-raw-clause-exact : goal.returns-in_err-raw-clause-exact
returns-in_err-raw-clause-exact c =
    let passed = err_from_is_err_and c.from_residual.result c.from_residual.ensures.1 in
    rw (passed.1, passed.2) (λ other. no_valid_of_none (listed c.args.options.now)
    c.args.bytes.items (c.in_err-raw.ensures.exact other))

pub returns-clause-valid : goal.returns-clause-valid
returns-clause-valid c =
    ok_valid (listed c.args.options.now) c.args.bytes.items c.in_ok-raw.raw.document
    c.in_ok-raw.raw.blob c.without_names.result c.in_ok-raw.ensures.document
    c.without_names.ensures.opened

pub returns-clause-only : goal.returns-clause-only
returns-clause-only c =
    ok_only (listed c.args.options.now) c.args.bytes.items c.in_ok-raw.raw.document
    c.in_ok-raw.raw.blob c.without_names.result
    c.what_shows_the_same_is_alike_in_each_member.ensures
    c.in_ok-raw.ensures.only c.without_names.ensures.opened

pub returns-clause-refused : goal.returns-clause-refused
returns-clause-refused c =
    err_refused (listed c.args.options.now) c.args.bytes.items c.in_ok-raw.raw.document
    (blob_bytes c.in_ok-raw.raw.blob) c.without_names.result c.in_ok-raw.ensures.document
    c.without_names.ensures.refused

pub returns-clause-exact : goal.returns-clause-exact
returns-clause-exact c =
    err_exact (listed c.args.options.now) c.args.bytes.items c.in_ok-raw.raw.document
    (blob_bytes c.in_ok-raw.raw.blob) c.without_names.result
    c.what_shows_the_same_is_alike_in_each_member.ensures
    c.what_shows_the_same_breaks_the_same_rules.ensures c.in_ok-raw.ensures.only
    c.without_names.ensures.refused

pub returns-clause-moved : goal.returns-clause-moved
returns-clause-moved c =
    ok_moved (listed c.args.options.now) c.in_ok-raw.raw.document c.in_ok-raw.raw.blob
    (λ blob. vec_capacity blob ≡ vec_capacity c.args.bytes) c.without_names.result
    c.in_ok-raw.ensures.moved c.without_names.ensures.opened
