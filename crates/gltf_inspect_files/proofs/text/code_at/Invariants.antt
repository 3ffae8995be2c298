use Rattle.std.proofs.Common.{◌≡◌, [], drop, map}
use Rattle.gltf_json_record.specs.Place.{place_of, named}
use Rattle.gltf_inspect.specs.Refusals.{last_of}
use Rattle.gltf_inspect_files.proofs.text.code_at.Given as goal

-- the last of those that are left, or the last so far, is the last of all
abbrev pub invariant-loop-step : goal.invariant-loop-step
invariant-loop-step l =
    last_of (place_of l.last) (map place_of (drop l.step-index l.steps))
    ≡ last_of (named []) (map place_of l.steps)
