use Rattle.std.proofs.Common.{◌≡◌, map, drop}
use Rattle.gltf_names.specs.Named.{named}
use Rattle.gltf_names.specs.Slices.{held_in, slices_holds}
use Rattle.gltf_names.proofs.slices.Slices.find.Given as goal

abbrev pub invariant-loop-own : goal.invariant-loop-own
invariant-loop-own l = record {
  left : slices_holds l.self (named l.name)
      ≡ held_in (map (λ file. (named file.0, file.1.now)) (drop l.own-index l.self.files.now))
      (named l.name);
}
