use Rattle.std.proofs.Common.{map, take}
use Rattle.std.specs.Fmt.{HasWritten, IsPlainFormatter}
use Rattle.gltf_json_record.specs.Place.{place_of, steps_text}
use Rattle.gltf_json_record.proofs.path.write_steps.Given as goal

-- the text of the steps so far is written
abbrev pub invariant-loop-step : goal.invariant-loop-step
invariant-loop-step g l =
    IsPlainFormatter l.initial.f
    → HasWritten g.W.Write.write_str_gives l.initial.f
    (steps_text (map place_of (take l.step-index l.steps))) l.f
