use Rattle.std.proofs.Common.{◌≡◌, ℕ, List, length, map, true}
use Rattle.json.specs.Json.{Json}
use Rattle.gltf_json_keys.specs.Keys.{is_among}
use Rattle.gltf_json_keys.specs.Passed.{JsonLacks}
use Rattle.gltf_json_keys.proofs.Runs.{Named}
use Rattle.gltf_json_keys.proofs.parts.pass_parts.Given as goal

-- ms are the members so far
abbrev pub invariant-members : goal.invariant-members
invariant-members l = (ms : List (List ℕ × Json))
    × Named (λ its j. is_among (map (λ k. k.now) l.parts) its ≡ true → JsonLacks l.name j) 126
    l.initial.rest ms l.rest

abbrev pub decreases-members : goal.decreases-members
decreases-members l = length l.rest
