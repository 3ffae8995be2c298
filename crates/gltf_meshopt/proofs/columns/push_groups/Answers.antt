use Rattle.std.proofs.Common.{ap, ◌∙◌, arith}
use Rattle.gltf_meshopt.specs.Attributes.{group_at}
use Rattle.gltf_meshopt.proofs.ColumnRuns.{group_more, group_stops, groups_end}
use Rattle.gltf_meshopt.proofs.columns.push_groups.Goals as goal

pub loop-index-preserved : goal.loop-index-preserved
loop-index-preserved c = record {
  so_far = rw c.in_ok-extend_from_slice.ensures.items (group_more c.args.groups c.loop-index.index
      c.args.header.now c.loop-index.out.items c.loop-index.rest.now _
      c.loop-index.invariant.so_far c.in-Some.found.0 c.in-Some.found.1.now (omega arith)
      (c.in-Some.ensures.value ∙ ap (λ w. group_at w c.loop-index.rest.now)
      c.width_of.ensures.value));
  len = omega (arith, c.in_ok-extend_from_slice.ensures.len, c.in-Some.ensures.len);
}

pub returns-in_default-clause-read : goal.returns-in_default-clause-read
returns-in_default-clause-read c = group_stops c.args.groups c.loop-index.index c.args.header.now
    c.loop-index.out.items c.loop-index.rest.now _ c.loop-index.invariant.so_far (omega arith)
    (c.in_default.ensures.value ∙ ap (λ w. group_at w c.loop-index.rest.now)
    c.width_of.ensures.value)

pub returns-clause-read : goal.returns-clause-read
returns-clause-read c = groups_end c.args.groups c.loop-index.index c.args.header.now
    c.loop-index.out.items c.loop-index.rest.now _ c.loop-index.invariant.so_far (omega arith)
