use Rattle.std.proofs.Common.{◌≡◌, ◌++◌, drop}
use Rattle.serde_json.specs.View.{items_view, members_view}
use Rattle.gltf_foreign.specs.Place.{places_view}
use Rattle.gltf_foreign.specs.Walk.{found_items, found_members}
use Rattle.gltf_foreign.proofs.walk.+found.Given as goal

-- what was found, and what is in those that are left
abbrev pub invariant-in_elements-loop-i : goal.invariant-in_elements-loop-i
invariant-in_elements-loop-i l =
    places_view l.all.items ++ found_items l.scope l.i (items_view (drop l.i l.one-items))
    ≡ found_items l.scope 0 (items_view l.one-items)

abbrev pub invariant-in_members-loop-name : goal.invariant-in_members-loop-name
invariant-in_members-loop-name l =
    places_view l.all.items ++ found_members l.scope (members_view l.name-iterator)
    ≡ found_members l.scope (members_view l.initial.name-iterator)
