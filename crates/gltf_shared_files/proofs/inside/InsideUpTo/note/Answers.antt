use Rattle.std.proofs.Common.{ℕ, List, ap, ◌∙◌}
use Rattle.std.specs.Prelude.{Option}
use Rattle.std.proofs.lemmas.Option.{same_Some}
use Rattle.gltf_names.specs.Named.{Named}
use Rattle.gltf_names.specs.Sources.{shelf_holds}
use Rattle.gltf_shared_files.proofs.inside.InsideUpTo.note.Goals as goal

pub invariant_of-self : goal.invariant_of-self
invariant_of-self g c = record {
  empty = λ name. ap (λ (holds : Named → Option (List ℕ)). holds name)
      (same_Some (shelf_holds c.read.new.self) (shelf_holds c.args.self.now.failed)
      c.read.ensures.kept)
      ∙ c.args.self.now.empty name;
}
