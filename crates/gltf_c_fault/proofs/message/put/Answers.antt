use Rattle.std.proofs.Common.{sym, ◌∙◌}
use Rattle.gltf_c_fault.proofs.Terminated.{is_terminated}
use Rattle.gltf_c_fault.proofs.message.put.Goals as goal

pub returns : goal.returns
returns c = is_terminated c.args.text.now c.args.room.now c.copy_from_slice.new.self
    c.min-len.result c.min-len.ensures c.copy_from_slice.ensures.after (sym c.is_empty.ensures ∙
    c.if-is_empty.false)
