use Rattle.std.proofs.Common.{◌≡◌, ℕ, List, take}
use Rattle.std.specs.BTreeSet.{contains_text}
use Rattle.gltf_inspect_meshes.specs.Names.{is_among}
use Rattle.gltf_inspect_meshes.proofs.names.NameSet.of.Given as goal

-- the set has the names so far
abbrev pub invariant-loop-name : goal.invariant-loop-name
invariant-loop-name l =
    (q : List ℕ) → contains_text l.set q ≡ is_among (take l.name-index l.names) q
