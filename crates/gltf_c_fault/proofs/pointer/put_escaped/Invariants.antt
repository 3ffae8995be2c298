use Rattle.std.proofs.Common.{take}
use Rattle.gltf_json_record.specs.Pointer.{escaped}
use Rattle.gltf_c_fault.specs.Message.{Appends}
use Rattle.gltf_c_fault.proofs.pointer.put_escaped.Given as goal

-- the bytes so far are appended
abbrev pub invariant-loop-byte : goal.invariant-loop-byte
invariant-loop-byte l =
    Appends (escaped (take l.byte-index l.fn.name)) l.fn.room l.fn.used l.room l.used
