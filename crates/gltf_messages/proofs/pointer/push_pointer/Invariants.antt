use Rattle.std.proofs.Common.{◌≡◌, ◌++◌, map, string_bytes, take}
use Rattle.gltf_json_record.specs.Place.{place_of}
use Rattle.gltf_json_record.specs.Pointer.{pointer_text}
use Rattle.gltf_messages.proofs.pointer.push_pointer.Given as goal

-- the tokens so far are written
abbrev pub invariant-loop-step : goal.invariant-loop-step
invariant-loop-step l =
    string_bytes l.text
    ≡ string_bytes l.fn.text ++ pointer_text (map place_of (take l.step-index l.step-items))
