-- Why a document is refused.
use Rattle.std.specs.Prelude.{◌≡◌, ◌≢◌, [], ⊤}
use Rattle.gltf_json.specs.declared.root.Root.{Root}
use Rattle.gltf_rules.specs.declared.valid.Refused.{Refused}
use Rattle.gltf_rules.specs.declared.valid.Refused.TheVariants.{Rules, Memory}
use Rattle.gltf_validation.specs.Documents.{Faults}

-- all broken rules, which are some, or out of memory
abbrev pub IsRefusal : Root → Refused → Type 0
IsRefusal r (Rules faults) = (faults.items ≡ Faults r) × (Faults r ≢ [])
IsRefusal r Memory = ⊤
