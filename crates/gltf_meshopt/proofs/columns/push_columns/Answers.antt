use Rattle.std.proofs.Common.{◌≡◌, arith}
use Rattle.std.proofs.lemmas.Result.{err_from_is_err_and}
use Rattle.gltf_meshopt.proofs.ColumnRuns.{column_more, column_stops, columns_end}
use Rattle.gltf_meshopt.proofs.columns.push_columns.Goals as goal

pub loop-preserved : goal.loop-preserved
loop-preserved c = record {
  so_far = column_more c.args.columns c.loop.counter c.args.groups c.loop.out.items c.loop.rest.now
      _ c.loop.invariant.so_far c.push_column.new.out.items c.in_ok-rest.rest.now (omega arith)
      c.in_ok-rest.ensures.read;
  len = omega (arith, c.in_ok-rest.ensures.len, c.loop.invariant.len);
}

pub returns-in_err-rest-clause-read : goal.returns-in_err-rest-clause-read
returns-in_err-rest-clause-read c =
    let p = err_from_is_err_and c.from_residual.result c.from_residual.ensures.1 in
    rw (p.1, p.2) (column_stops c.args.columns c.loop.counter c.args.groups c.loop.out.items
    c.loop.rest.now _ c.loop.invariant.so_far c.in_err-rest.field-0.0 (omega arith)
    c.in_err-rest.ensures.read)

pub returns-clause-read : goal.returns-clause-read
returns-clause-read c = columns_end c.args.columns c.loop.counter c.args.groups c.loop.out.items
    c.loop.rest.now _ c.loop.invariant.so_far (omega arith)

pub returns-clause-len : goal.returns-clause-len
returns-clause-len c =
    let e : c.loop.counter ≡ c.args.columns = omega arith in
    rw (← e) c.loop.invariant.len
