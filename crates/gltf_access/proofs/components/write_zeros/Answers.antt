use Rattle.std.proofs.Common.{arith}
use Rattle.gltf_access.proofs.Zeroed.{nothing_written, no_zeros_room, zeros_total, not_below}
use Rattle.gltf_access.proofs.components.write_zeros.Goals as goal

pub returns-then-count-eq0 : goal.returns-then-count-eq0
returns-then-count-eq0 c =
    nothing_written c.args.count c.args.size c.args.out.now c.if-count-eq0.true

pub returns-in_default : goal.returns-in_default
returns-in_default c =
    no_zeros_room c.args.count c.args.size c.args.out.now (omega arith)
    (omega (arith, not_below _ _ c.in_default.ensures))

pub returns-then-out-total : goal.returns-then-out-total
returns-then-out-total c =
    no_zeros_room c.args.count c.args.size c.args.out.now (omega arith)
    (omega (arith, c.in-Some.ensures.1))

pub returns : goal.returns
returns c =
    zeros_total c.args.count c.args.size c.in-Some.total c.args.out.now c.clear.new.out
    (omega (arith, c.in-Some.ensures.1)) (omega arith) (omega arith) c.clear.ensures
