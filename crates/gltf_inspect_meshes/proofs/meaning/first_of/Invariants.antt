use Rattle.std.proofs.Common.{◌≡◌}
use Rattle.gltf_inspect_meshes.specs.Meanings.{first_of}
use Rattle.gltf_inspect_meshes.proofs.meaning.first_of.Given as goal

-- the first of those that are left is the first of all
abbrev pub invariant-loop-semantic : goal.invariant-loop-semantic
invariant-loop-semantic l =
    first_of l.number l.semantic-iterator ≡ first_of l.number l.attributes.entries
