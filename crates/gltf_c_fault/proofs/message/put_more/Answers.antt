use Rattle.gltf_c_fault.proofs.Behind.{put_behind}
use Rattle.gltf_c_fault.proofs.message.put_more.Goals as goal

pub returns : goal.returns
returns c text room is count =
    put_behind text c.args.text.now room c.args.room.now c.put.new.room c.args.used c.min.result
    is count c.if-used-room.false c.put.ensures c.min.ensures
