use Rattle.std.proofs.Common.{◌+◌, ◌*◌, length, get_or, arith}
use Rattle.std.proofs.lemmas.List.FromFn.{fill_by_all}
use Rattle.gltf_meshopt.specs.Numbers.{stepped}
use Rattle.gltf_meshopt.specs.Attributes.{element}
use Rattle.gltf_meshopt.proofs.elements.step_element.Goals as goal

pub returns : goal.returns
unfolding element
returns c =
    fill_by_all (λ k. stepped 256 (get_or c.args.last.now k 0) (get_or c.args.deltas.now (k *
    c.args.size + c.args.index) 0)) c.loop-k.last (length c.args.last.now) 0 c.loop-k.auto.last
    (λ k lt. c.loop-k.invariant.done k (omega arith))
