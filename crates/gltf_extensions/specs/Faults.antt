-- Why an extension is not read.
use Rattle.std.specs.Prelude.{◌≡◌, ◌≢◌, [], ⊤}
use Rattle.serde_json.specs.Data.{Data}
use Rattle.gltf_json.specs.declared.root.Root.{Root}
use Rattle.gltf_json_record.specs.Kind.{Kind}
use Rattle.gltf_json_record.specs.declared.error.Error as record_error
use Rattle.gltf_validation.specs.Documents.{counts_of}
use Rattle.gltf_validation.specs.Rules.{checks_at, broken}
use Rattle.gltf_validation.specs.Rules as rules
use Rattle.gltf_validation.specs.declared.counts.Counts.{Counts}
use Rattle.gltf_extensions.specs.declared.fault.ExtensionFault.{ExtensionFault}
use Rattle.gltf_extensions.specs.declared.fault.ExtensionFault.TheVariants.{Record, Rules, Memory}

-- the fault of a value of this kind and with these rules, in the document r: one that stands in
-- the value, or all rules that its reading breaks, which are some
abbrev pub IsFault : {T : Type 0} → Kind T → (Counts → T → rules.Rules) → Root → Data
    → ExtensionFault → Type 0
IsFault K R r d (Record path fault) = K.fault d path fault
IsFault {T} K R r d (Rules faults) =
    (x : T) × K.is d x
    × (faults.items ≡ broken (checks_at [] (R (counts_of r) x)))
    × (faults.items ≢ [])
IsFault K R r d Memory = ⊤

-- what becomes of the error of a record
abbrev pub IsOfRecord : record_error.Error → ExtensionFault → Type 0
IsOfRecord (record_error.TheVariants.Record path fault) result = result ≡ Record path fault
IsOfRecord (record_error.TheVariants.Text e) result = result ≡ Memory
IsOfRecord record_error.TheVariants.Memory result = result ≡ Memory
