use Rattle.std.proofs.Common.{◌≡◌, ℕ, ◌+◌, ◌*◌, ◌≤◌, ◌++◌, length, take, drop, subst, arith}
use Rattle.gltf_access.proofs.Bare.{no_columns, next_column, all_columns, column_in, room_in}
use Rattle.gltf_access.proofs.Bare.{spread}
use Rattle.gltf_access.proofs.columns.write_columns.Goals as goal

pub loop-i-init : goal.loop-i-init
loop-i-init c =
    let l = c.args.layout in
    no_columns (l.column + l.padding) l.column c.args.item.now c.args.out.now

pub overflow_mul-from : goal.overflow_mul-from
overflow_mul-from c =
    let l = c.args.layout in
    let within : c.loop-i.i * (l.column + l.padding) + l.column ≤ length c.args.item.now =
    column_in c.loop-i.i l.columns (l.column + l.padding) l.column (length c.args.item.now)
    (omega arith) c.requires.ends in
    omega (arith, within, spread c.loop-i.i l.column l.padding)

pub overflow_add-from : goal.overflow_add-from
overflow_add-from c =
    let l = c.args.layout in
    let within : c.loop-i.i * (l.column + l.padding) + l.column ≤ length c.args.item.now =
    column_in c.loop-i.i l.columns (l.column + l.padding) l.column (length c.args.item.now)
    (omega arith) c.requires.ends in
    omega (arith, within, spread c.loop-i.i l.column l.padding)

pub write_column-requires-clause-there : goal.write_column-requires-clause-there
write_column-requires-clause-there c =
    let l = c.args.layout in
    let within : c.loop-i.i * (l.column + l.padding) + l.column ≤ length c.args.item.now =
    column_in c.loop-i.i l.columns (l.column + l.padding) l.column (length c.args.item.now)
    (omega arith) c.requires.ends in
    omega (arith, within, spread c.loop-i.i l.column l.padding)

pub write_column-requires-clause-room : goal.write_column-requires-clause-room
write_column-requires-clause-room c =
    let l = c.args.layout in
    let within : c.loop-i.i * l.column + l.column ≤ length c.args.out.now =
    room_in c.loop-i.i l.columns l.column (length c.args.out.now) (omega arith)
    c.requires.room in
    omega (arith, within)

pub loop-i-preserved : goal.loop-i-preserved
loop-i-preserved c =
    let l = c.args.layout in
    let i = c.loop-i.i in
    let within : i * (l.column + l.padding) + l.column ≤ length c.args.item.now =
    column_in i l.columns (l.column + l.padding) l.column (length c.args.item.now)
    (omega arith) c.requires.ends in
    next_column i (l.column + l.padding) l.column c.args.item.now c.args.out.now
    c.loop-i.out _ (omega arith) (omega (arith, within)) c.loop-i.invariant
    (subst (λ (k : ℕ). c.write_column.new.out
    ≡ take (i * l.column) c.loop-i.out ++ take l.column (drop k c.args.item.now)
    ++ drop (i * l.column + l.column) c.loop-i.out) (spread i l.column l.padding)
    c.write_column.ensures)

pub returns : goal.returns
returns c =
    let l = c.args.layout in
    all_columns c.loop-i.i l.columns (l.column + l.padding) l.column c.args.item.now
    c.args.out.now c.loop-i.out (omega arith) c.requires.room c.loop-i.invariant
