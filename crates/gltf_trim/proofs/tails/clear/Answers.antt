use Rattle.std.proofs.Common.{◌≡◌, length, arith, min}
use Rattle.gltf_trim.proofs.Cleared.{cleared_in_vec}
use Rattle.gltf_trim.proofs.tails.clear.Goals as goal

pub returns : goal.returns
returns c i =
    let xs = c.args.bytes.now.items in
    let n = c.args.bytes.now.len in
    let long : n ≡ length xs = omega arith in
    let end_is : c.min-to.result ≡ min c.args.to n = omega arith in
    cleared_in_vec xs c.deref_mut.result.now c.fill.new.self n c.args.from c.args.to
    c.min-from.result c.min-to.result i c.deref_mut.ensures.value long end_is c.min-from.ensures
    (c.fill.ensures.after (λ y same. same))
