-- What the reading of a text says of other readings.
use Rattle.std.proofs.Common.{◌≡◌, ℕ, List, subst}
use Rattle.serde_json.specs.Data.{Data}
use Rattle.gltf_json.specs.Documents.{root}
use Rattle.gltf_json.specs.Reading.{Reads}
use Rattle.gltf_json.specs.declared.root.Root.{Root}

-- a text has one value
pub texts_alike : (bytes : List ℕ) (d e : Data) (r s : Root) → Reads bytes d → Reads bytes e
    → root.is d r → root.is e s → root.content r ≡ root.content s
texts_alike bytes d e r s first second is other =
    let IsReading : Data → Type 0 = λ v. root.is v s in
    let one : e ≡ d = cc (first.1, second.1) in
    root.alike d r s is (subst IsReading one other)
