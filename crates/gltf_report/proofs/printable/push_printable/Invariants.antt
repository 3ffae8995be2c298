use Rattle.std.proofs.Common.{◌≡◌, ℕ, List, ◌++◌, string_bytes}
use Rattle.std.specs.Prelude.{encode_utf8_all}
use Rattle.std.specs.Str.Iter.{chars_rest}
use Rattle.gltf_report.specs.Printable.{shown_chars}
use Rattle.gltf_report.proofs.printable.push_printable.Given as goal

-- the characters so far, and what is left of the text
abbrev pub invariant-loop-c : goal.invariant-loop-c
invariant-loop-c l =
    (cs : List ℕ) × (encode_utf8_all cs ++ chars_rest l.c-iterator ≡ l.fn.text)
    × (string_bytes l.shown ≡ string_bytes l.fn.shown ++ encode_utf8_all (shown_chars cs))
