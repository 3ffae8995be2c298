use Rattle.std.proofs.Common.{◌≡◌, ℕ, ◌+◌, ◌-◌, ◌*◌, List, map, length}
use Rattle.serde_json.specs.Data.{Data, no_members}
use Rattle.serde_json.specs.View.{view, members_view}
use Rattle.gltf_json_tokens.specs.Runs.{Items, Named, put_all}
use Rattle.gltf_json_tokens.proofs.build.+build.Given as goal

-- an array at depth n calls for values at depth n - 1
abbrev pub decreases-build : goal.decreases-build
decreases-build l = 2 * l.depth + 1

abbrev pub decreases-array : goal.decreases-array
decreases-array l = 2 * l.depth

abbrev pub decreases-object : goal.decreases-object
decreases-object l = 2 * l.depth

abbrev pub invariant-array-items : goal.invariant-array-items
invariant-array-items l = Items (l.depth - 1) l.initial.rest (map view l.items.items) l.rest

abbrev pub decreases-array-items : goal.decreases-array-items
decreases-array-items l = length l.rest

-- ms are the members so far, as they stand in the text
abbrev pub invariant-object-members : goal.invariant-object-members
invariant-object-members l = (ms : List (List ℕ × Data))
    × Named (l.depth - 1) l.initial.rest ms l.rest
    × (members_view l.members.entries ≡ put_all ms no_members)

abbrev pub decreases-object-members : goal.decreases-object-members
decreases-object-members l = length l.rest
