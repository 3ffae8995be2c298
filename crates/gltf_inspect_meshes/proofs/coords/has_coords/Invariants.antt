use Rattle.std.proofs.Common.{◌≡◌}
use Rattle.gltf_inspect_meshes.specs.Coords.{has_coords}
use Rattle.gltf_inspect_meshes.proofs.coords.has_coords.Given as goal

-- the set is among those that are left where it is among all
abbrev pub invariant-loop-semantic : goal.invariant-loop-semantic
invariant-loop-semantic l =
    has_coords l.semantic-iterator l.set ≡ has_coords l.attributes.entries l.set
