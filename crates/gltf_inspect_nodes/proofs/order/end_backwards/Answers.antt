use Rattle.std.proofs.Common.{◌≡◌, ◌+◌, ◌-◌, suc, length, arith, set, subst}
use Rattle.gltf_inspect_nodes.proofs.Passing.{Passed, passed_more, passed_all, ranked_last, back}
use Rattle.gltf_inspect_nodes.proofs.order.end_backwards.Goals as goal

pub loop-i-preserved : goal.loop-i-preserved
loop-i-preserved c =
    let p = c.args.table.now in
    let t = c.loop-i.table in
    let i = c.loop-i.i - 1 in
    let n = length c.args.table.now + 1 - c.loop-i.i in
    let long = c.loop-i.invariant.long in
    let most = c.loop-i.auto.i in
    let some = c.loop-i-test.true in
    subst (λ m. Passed (back (length c.args.table.now)) c.args.table.now
    (set c.loop-i.table (c.loop-i.i - 1) c.led.result) m)
    (let e : suc (length c.args.table.now + 1 - c.loop-i.i)
    ≡ length c.args.table.now + 1 - (c.loop-i.i - 1) = omega arith in e)
    (passed_more (back (length p)) p t n i c.led.result (ranked_last p c.requires)
    c.loop-i.invariant (omega arith) (omega arith) (λ k e. omega arith) c.led.ensures)

pub returns : goal.returns
returns c =
    let p = c.args.table.now in
    passed_all (back (length p)) p c.loop-i.table (length p + 1 - c.loop-i.i)
    (ranked_last p c.requires) c.loop-i.invariant
    (λ k below. omega arith)
    (λ k below. omega arith)
