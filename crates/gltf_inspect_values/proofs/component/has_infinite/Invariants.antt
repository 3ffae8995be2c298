use Rattle.std.proofs.Common.{◌≡◌, length}
use Rattle.gltf_inspect_values.specs.Components.{has_infinite}
use Rattle.gltf_inspect_values.proofs.component.has_infinite.Given as goal

-- what holds of the bytes that are left, holds of all
abbrev pub invariant-floats : goal.invariant-floats
invariant-floats l = has_infinite l.rest ≡ has_infinite l.item

abbrev pub decreases-floats : goal.decreases-floats
decreases-floats l = length l.rest
