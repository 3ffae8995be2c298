use Rattle.std.proofs.Common.{◌<◌, length, arith}
use Rattle.std.specs.List.{range_with_len}
use Rattle.std.proofs.lemmas.List.FromFn.{length-range_with_len, get_or-range_with_len}
use Rattle.gltf_geometry.proofs.vertices.Vertices.at.Goals as goal

pub prove-unreachable-requires : goal.prove-unreachable-requires
prove-unreachable-requires c =
    let below : c.args.position < length (range_with_len 0 c.in-Count.count) =
    rw c.in-Count.is at c.requires in
    omega (arith, length-range_with_len 0 c.in-Count.count)

pub returns-in-Count : goal.returns-in-Count
returns-in-Count c =
    rw c.in-Count.is (omega (
      arith,
      get_or-range_with_len 0 c.in-Count.count c.args.position 0 c.if-prove.false,
    ))
