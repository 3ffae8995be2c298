use Rattle.std.proofs.Common.{arith}
use Rattle.std.proofs.lemmas.Bool.Decides.{nat_tests}
use Rattle.gltf_meshopt.specs.Reading.{after}
use Rattle.gltf_meshopt.specs.Indices.{all_stored, indices_at}
use Rattle.gltf_meshopt.proofs.IndexRuns.{goes_on_even, goes_on_odd, stops, is_done}
use Rattle.gltf_meshopt.proofs.indices.push_indices.Goals as goal
use Rattle.gltf_meshopt.proofs.indices.push_indices.Goals.{then-number-eq0, else-number-eq0}

pub loop-preserved : goal.loop-preserved
loop-preserved c =
    let s = c.args.stride in
    let n = c.in-Some.number in
    let total = after c.args.out.now.items (all_stored s (indices_at c.args.count 0 0
    c.args.bytes.now)) in
    elim c.if-number-eq0.branch [
      | then-number-eq0 w ↦ rw (
        c.in_ok-push_index.ensures,
        w.even-is,
        w.odd-is,
        c.index_of-index.ensures,
      ) (goes_on_even s c.args.count c.loop.counter c.loop.even
          c.loop.odd c.loop.out.items c.loop.rest.now n c.in-Some.following.now total
          c.loop-test.true c.in-Some.ensures c.loop.invariant w.if-number-eq0.true)
      | else-number-eq0 w ↦ rw (
        c.in_ok-push_index.ensures,
        w.even-is,
        w.odd-is,
        c.index_of-index.ensures,
      ) (goes_on_odd s c.args.count c.loop.counter c.loop.even
          c.loop.odd c.loop.out.items c.loop.rest.now n c.in-Some.following.now total
          c.loop-test.true c.in-Some.ensures c.loop.invariant (grind (
            arith,
            nat_tests,
            w.if-number-eq0.false,
          )))
    ]

pub returns-in_default : goal.returns-in_default
returns-in_default c = stops c.args.stride c.args.count c.loop.counter c.loop.even c.loop.odd
    c.loop.out.items c.loop.rest.now _ c.loop-test.true c.in_default.ensures c.loop.invariant

pub returns : goal.returns
returns c = is_done c.args.stride c.args.count c.loop.counter c.loop.even c.loop.odd
    c.loop.out.items c.loop.rest.now _ c.loop-test.false c.loop.invariant
