use Rattle.std.proofs.Common.{rules, ◌≡◌}
use Rattle.gltf_glb.specs.Bytes.{magic, tag_at}
use Rattle.std.proofs.lemmas.Result.{err_from_is_err_and}
use Rattle.gltf_glb.proofs.Fronts.{short_tag, short_header}
use Rattle.gltf_glb.proofs.Stops.{stopped_front, few_of}
use Rattle.gltf_glb.proofs.binary.drawing.front_of.Goals as goal

pub returns-in_err-fill_up-clause-err : goal.returns-in_err-fill_up-clause-err
returns-in_err-fill_up-clause-err g c =
    let came = c.fill_up.new.bytes.items in
    let passed = err_from_is_err_and c.from_residual.result c.from_residual.ensures.1 in
    rw (passed.1, passed.2) (stopped_front came c.in_err-fill_up.field-0.0
    c.in_err-fill_up.ensures.stop (few_of came c.in_err-fill_up.ensures.fewer)
    (short_tag came c.in_err-fill_up.ensures.fewer))

pub returns-in_err-fill_up-2-clause-err : goal.returns-in_err-fill_up-2-clause-err
returns-in_err-fill_up-2-clause-err g c =
    let came = c.fill_up-2.new.bytes.items in
    let head = c.fill_up.new.bytes.items in
    let begins : tag_at 0 c.fill_up.new.bytes.items ≡ magic = search rules in
    let exit = c.from_residual-in_err-fill_up-2 in
    let passed = err_from_is_err_and exit.result exit.ensures.1 in
    rw (passed.1, passed.2) (stopped_front came c.in_err-fill_up-2.field-0.0
    c.in_err-fill_up-2.ensures.stop c.in_err-fill_up-2.ensures.fewer
    (short_header came head c.fill_up-2.ensures.came.0 c.fill_up-2.ensures.came.2
    c.in_ok-fill_up.ensures.all begins c.in_err-fill_up-2.ensures.fewer))
