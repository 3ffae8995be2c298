use Rattle.std.proofs.Common.{◌≡◌}
use Rattle.gltf_inspect_meshes.specs.Sets.{sets, count_up}
use Rattle.gltf_inspect_meshes.proofs.sets.are_consecutive.Given as goal

-- the sets that are left go on counting exactly where all count up from 0
abbrev pub invariant-loop-semantic : goal.invariant-loop-semantic
invariant-loop-semantic l =
    count_up l.next (sets l.kind l.semantic-iterator)
    ≡ count_up 0 (sets l.kind l.attributes.entries)
