-- What the reading of a document says of other readings.
use Rattle.std.proofs.Common.{◌≡◌, ◌≢◌, Result, Ok, Err, IfOk, IfErr}
use Rattle.serde_json.specs.Data.{Data}
use Rattle.gltf_json_record.specs.declared.error.Error.{Error}
use Rattle.gltf_json_record.specs.declared.error.Error.TheVariants.{Memory}
use Rattle.gltf_json.specs.Documents.{root}
use Rattle.gltf_json.specs.declared.root.Root.{Root}

pub read_alike : (d : Data) (result : Result Root Error) → IfOk result (root.is d)
    → IfOk result (λ r. (s : Root) → root.is d s → root.content s ≡ root.content r)
read_alike d (Ok r) is = λ s other. root.alike d s r other is
read_alike d (Err e) is = tt

pub refused_unread : (d : Data) (result : Result Root Error)
    → IfErr result (λ e. e ≢ Memory → root.fits d → ⊥)
    → IfErr result (λ e. e ≢ Memory → (r : Root) → root.is d r → ⊥)
refused_unread d (Ok r) refused = tt
refused_unread d (Err e) refused = λ other r is. refused other (root.needs d r is)
