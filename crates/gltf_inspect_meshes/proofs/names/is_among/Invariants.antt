use Rattle.std.proofs.Common.{◌≡◌, drop}
use Rattle.gltf_inspect_meshes.specs.Names.{is_among}
use Rattle.gltf_inspect_meshes.proofs.names.is_among.Given as goal

-- the name is among those that are left where it is among all
abbrev pub invariant-loop-other : goal.invariant-loop-other
invariant-loop-other l = is_among (drop l.other-index l.names) l.name ≡ is_among l.names l.name
