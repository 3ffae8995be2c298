use Rattle.gltf_meshopt.proofs.ElementRuns.{elements_more, last_more, elements_end, last_end}
use Rattle.gltf_meshopt.proofs.elements.push_elements.Goals as goal

pub loop-index-preserved : goal.loop-index-preserved
loop-index-preserved c = record {
  items = rw (c.in_ok-extend_from_slice.ensures.items, c.step_element.ensures) (elements_more
      c.args.size c.args.deltas.now c.args.count c.loop-index.index c.loop-index.last
      c.loop-index.out.items _ c.loop-index-test.true c.loop-index.invariant.items);
  last = rw c.step_element.ensures (last_more c.args.size c.args.deltas.now c.args.count
      c.loop-index.index c.loop-index.last _ c.loop-index-test.true c.loop-index.invariant.last);
}

pub returns : goal.returns
returns c = record {
  items = elements_end c.args.size c.args.deltas.now c.args.count c.loop-index.index
      c.loop-index.last c.loop-index.out.items _ c.loop-index-test.false
      c.loop-index.invariant.items;
  last = last_end c.args.size c.args.deltas.now c.args.count c.loop-index.index c.loop-index.last _
      c.loop-index-test.false c.loop-index.invariant.last;
}
