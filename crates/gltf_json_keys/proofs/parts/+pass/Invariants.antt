use Rattle.std.proofs.Common.{◌≢◌, ℕ, ◌+◌, ◌-◌, ◌*◌, List, length}
use Rattle.json.specs.Json.{Json}
use Rattle.gltf_json_keys.specs.Passed.{JsonLacks}
use Rattle.gltf_json_keys.proofs.Runs.{Run, Named}
use Rattle.gltf_json_keys.proofs.parts.+pass.Given as goal

-- an array at depth n calls for values at depth n - 1
abbrev pub decreases-pass_value : goal.decreases-pass_value
decreases-pass_value l = 3 * l.depth + 1

abbrev pub decreases-pass_array : goal.decreases-pass_array
decreases-pass_array l = 3 * l.depth

abbrev pub decreases-pass_object : goal.decreases-pass_object
decreases-pass_object l = 3 * l.depth

abbrev pub decreases-pass_member : goal.decreases-pass_member
decreases-pass_member l = 3 * l.depth + 2

-- js are the values so far
abbrev pub invariant-pass_array-items : goal.invariant-pass_array-items
invariant-pass_array-items l = (js : List Json)
    × Run (JsonLacks l.name) (l.depth - 1) l.initial.rest js l.rest

abbrev pub decreases-pass_array-items : goal.decreases-pass_array-items
decreases-pass_array-items l = length l.rest

-- ms are the members so far
abbrev pub invariant-pass_object-members : goal.invariant-pass_object-members
invariant-pass_object-members l = (ms : List (List ℕ × Json))
    × Named (λ its j. (its ≢ l.name) × JsonLacks l.name j) (l.depth - 1) l.initial.rest ms l.rest

abbrev pub decreases-pass_object-members : goal.decreases-pass_object-members
decreases-pass_object-members l = length l.rest
