use Rattle.std.proofs.Common.{arith}
use Rattle.gltf_bundle.proofs.Joins.{none_joined, one_joined}
use Rattle.gltf_bundle.proofs.joining.put_joined.Goals as goal

pub loop-buffer-init : goal.loop-buffer-init
loop-buffer-init c = none_joined c.args.out.now.items

pub loop-buffer-preserved : goal.loop-buffer-preserved
loop-buffer-preserved c =
    one_joined c.args.buffers.now c.loop-buffer.buffer-index c.buffer-item.result
    c.args.out.now.items c.loop-buffer.out.items c.put_filled.new.out.items (omega arith)
    c.buffer-item.is c.loop-buffer.invariant
    (rw c.deref.ensures.value at c.in_ok-put_filled.ensures)
