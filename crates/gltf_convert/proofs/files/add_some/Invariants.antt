use Rattle.std.proofs.Common.{◌≡◌, ◌++◌, map, drop}
use Rattle.gltf_convert.specs.Files.{shown, beside_some}
use Rattle.gltf_convert.proofs.files.add_some.Given as goal

abbrev pub invariant-parts : goal.invariant-parts
invariant-parts l = record {
  seen : map shown l.files.items ++ beside_some l.base (drop l.part-index l.parts)
      ≡ map shown l.fn.files.items ++ beside_some l.base l.parts;
}
