use Rattle.std.proofs.Common.{◌≡◌, ◌++◌, string_bytes}
use Rattle.std.specs.Str.Iter.{chars_rest}
use Rattle.gltf_json_record.specs.Pointer.{escaped}
use Rattle.gltf_messages.proofs.pointer.push_escaped.Given as goal

-- what is written and the escapes of what is left
abbrev pub invariant-loop-c : goal.invariant-loop-c
invariant-loop-c l =
    string_bytes l.text ++ escaped (chars_rest l.c-iterator)
    ≡ string_bytes l.fn.text ++ escaped l.fn.name
