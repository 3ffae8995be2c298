-- What an error says of a document.
use Rattle.std.specs.Prelude.{◌≡◌, ◌≢◌, [], ⊤}
use Rattle.gltf_glb.specs.declared.error.Error.{Error}
use Rattle.gltf_glb.specs.declared.error.Error.TheVariants.{Validation, Memory}
use Rattle.gltf_json.specs.declared.root.Root.{Root}
use Rattle.gltf_validation.specs.Documents.{Faults}

-- the error is out of memory, or P of it
abbrev pub OutOfMemoryOr : (Error → Type 0) → Error → Type 0
OutOfMemoryOr P Memory = ⊤
OutOfMemoryOr P e = P e

-- the error has all broken rules, which are some
abbrev pub TellsRules : Root → Error → Type 0
TellsRules r (Validation faults) = (faults.items ≡ Faults r) × (Faults r ≢ [])
TellsRules r _ = ⊥
