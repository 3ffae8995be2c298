-- Nothing is known of what a folder holds: the two clauses of the trait on that ask nothing of it.
use Rattle.std.proofs.Common.{ℕ, None, Result, Ok, Err, Vec, Global, rules, refl}
use Rattle.gltf_names.specs.Answers.{GivesHeld}
use Rattle.gltf_names.specs.Named.{Named, named}
use Rattle.gltf_names.specs.declared.name.NamedFault.{NamedFault}
use Rattle.gltf_names.proofs.own_folder.OwnFolderNamedBytes.TheImpl.Goals as goal

holds_nothing : (result : Result (Vec ℕ Global) NamedFault) (name : Named)
    → GivesHeld result name None
holds_nothing (Ok bytes) name = tt
holds_nothing (Err fault) name = tt

pub read-tells : goal.read-tells
read-tells g c = record {
  failure = search rules;
  honest = holds_nothing c.result (named c.args.name);
  kept = refl;
}
