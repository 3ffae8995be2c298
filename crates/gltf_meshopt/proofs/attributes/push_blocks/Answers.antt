use Rattle.std.proofs.Common.{◌≡◌, List, ℕ, Ok, length, sym, subst, arith}
use Rattle.std.proofs.lemmas.Result.{err_from_is_err_and}
use Rattle.gltf_meshopt.specs.Reading.{after}
use Rattle.gltf_meshopt.specs.Attributes.{columns_at, groups_for}
use Rattle.gltf_meshopt.proofs.BlockRuns.{block_more, block_stops, blocks_end}
use Rattle.gltf_meshopt.proofs.Pieces.{nothing_before}
use Rattle.gltf_meshopt.proofs.attributes.push_blocks.Goals as goal

pub loop-preserved : goal.loop-preserved
loop-preserved c =
    let size = c.min-size.result in
    let columns = columns_at (length c.loop.last) (groups_for size) c.loop.rest.now in
    let deltas = c.push_columns.new.out.items in
    let following = c.in_ok-rest.rest.now in
    let read = nothing_before deltas following columns (subst (λ (f : List ℕ). after f columns ≡ Ok
    (deltas, following)) c.clear.ensures.items c.in_ok-rest.ensures.read) in
    rw (
      c.in_ok-push_elements.ensures.items,
      c.in_ok-push_elements.ensures.last,
      c.deref.ensures.value,
    )
    (block_more c.args.most c.args.blocks c.loop.counter c.loop.left c.loop.last c.loop.out.items
    c.loop.rest.now _ c.loop.invariant size deltas following c.loop-test.true (sym
    c.min-size.ensures) read)

pub returns-in_err-rest : goal.returns-in_err-rest
returns-in_err-rest c =
    let p = err_from_is_err_and c.from_residual.result c.from_residual.ensures.1 in
    rw (p.1, p.2) (block_stops c.args.most c.args.blocks c.loop.counter c.loop.left c.loop.last
    c.loop.out.items c.loop.rest.now _ c.loop.invariant c.in_err-rest.field-0.0
    c.min-size.result c.clear.new.self.items c.loop-test.true (sym c.min-size.ensures)
    c.in_err-rest.ensures.read)

pub returns : goal.returns
returns c = blocks_end c.args.most c.args.blocks c.loop.counter c.loop.left c.loop.last
    c.loop.out.items c.loop.rest.now _ c.loop.invariant (omega arith)
