use Rattle.std.proofs.Common.{map, take, []}
use Rattle.gltf_json_record.specs.Place.{place_of}
use Rattle.gltf_json_record.specs.Pointer.{pointer_text}
use Rattle.gltf_c_fault.specs.Message.{text_in_room, Appends}
use Rattle.gltf_c_fault.proofs.pointer.put_pointer.Given as goal

-- the tokens so far are appended
abbrev pub invariant-loop-step : goal.invariant-loop-step
invariant-loop-step l =
    Appends (pointer_text (map place_of (take l.step-index l.fn.steps)))
    (text_in_room [] l.fn.room) 0 l.room l.used
