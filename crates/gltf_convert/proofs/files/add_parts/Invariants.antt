use Rattle.std.proofs.Common.{◌≡◌, ◌++◌, map, drop}
use Rattle.gltf_convert.specs.Files.{shown, beside}
use Rattle.gltf_convert.proofs.files.add_parts.Given as goal

abbrev pub invariant-parts : goal.invariant-parts
invariant-parts l = record {
  seen : map shown l.files.items ++ beside l.base (drop l.part-index l.parts)
      ≡ map shown l.fn.files.items ++ beside l.base l.parts;
}
