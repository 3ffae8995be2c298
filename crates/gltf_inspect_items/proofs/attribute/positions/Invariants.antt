use Rattle.std.proofs.Common.{◌≡◌}
use Rattle.gltf_inspect_items.specs.Attributes.{positions}
use Rattle.gltf_inspect_items.proofs.attribute.positions.Given as goal

-- the first of those that are left is the first of all
abbrev pub invariant-loop-semantic : goal.invariant-loop-semantic
invariant-loop-semantic l = positions l.semantic-iterator ≡ positions l.attributes.entries
