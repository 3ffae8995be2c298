-- What is read of a text, and why it is not, by what is mended of its value.
use Rattle.std.proofs.Common.{◌≡◌, ℕ, List, Option, Some, None, Result, Ok, Err, false, sym}
use Rattle.std.proofs.Common.{subst}
use Rattle.std.specs.Prelude.{IfOk, IfErr}
use Rattle.serde_json.specs.Data.{Data}
use Rattle.gltf_json.specs.Documents.{root}
use Rattle.gltf_json.specs.Reading.{Reads, Refuses}
use Rattle.gltf_json.specs.declared.root.Root.{Root}
use Rattle.gltf_json_record.specs.declared.error.Error as json
use Rattle.gltf_json_record.specs.declared.error.Error.TheVariants.{Text, Record, Memory}
use Rattle.gltf_lenient.specs.Import.{RefusesValue}
use Rattle.gltf_mend.specs.Mended.{mended}
use Rattle.gltf_mended.specs.Whole.{leaves_whole}
use Rattle.gltf_mend.specs.declared.mends.Mends.{Mends}
use Rattle.gltf_required.specs.Import.{RefusesMendedBy}
use Rattle.gltf_required.specs.Required.{mended_by}

abbrev pub ReadsBy : Option Mends → List ℕ → Root → Type 0
ReadsBy o text r = (d : Data) × Reads text d × root.is (mended_by o d) r

pub read_so : (o p : Option Mends) (text : List ℕ) (result : Result Root json.Error) → o ≡ p
    → IfOk result (ReadsBy p text) → IfOk result (ReadsBy o text)
read_so o p text result is told =
    subst (λ (q : Option Mends). IfOk result (ReadsBy q text)) (sym is) told

plain : (text : List ℕ) (cause : json.Error) → Refuses text cause → RefusesMendedBy None text cause
plain text (Text refused) told = told
plain text (Record path fault) told = told
plain text Memory told = told

mended_one : (mends : Mends) (text : List ℕ) (cause : json.Error) → RefusesValue mends text cause
    → RefusesMendedBy (Some mends) text cause
mended_one mends text (Text refused) told = told
mended_one mends text (Record path fault) told = told
mended_one mends text Memory told = told

pub plain_refused : (o : Option Mends) (text : List ℕ) (result : Result Root json.Error)
    → o ≡ None → IfErr result (Refuses text) → IfErr result (RefusesMendedBy o text)
plain_refused o text (Ok r) is told = tt
plain_refused o text (Err cause) is told =
    subst (λ (q : Option Mends). RefusesMendedBy q text cause) (sym is) (plain text cause told)

pub mended_refused : (o : Option Mends) (mends : Mends) (text : List ℕ)
    (result : Result Root json.Error) → o ≡ Some mends
    → IfErr result (RefusesValue mends text) → IfErr result (RefusesMendedBy o text)
mended_refused o mends text (Ok r) is told = tt
mended_refused o mends text (Err cause) is told =
    subst (λ (q : Option Mends). RefusesMendedBy q text cause) (sym is)
    (mended_one mends text cause told)

-- what is read of a text as it stands is read of it as it is mended
pub read_whole : (mends : Mends) (text : List ℕ) (r : Root)
    → mends.skip_unknown_attributes ≡ false → ((d : Data) × Reads text d × root.is d r)
    → (d : Data) × Reads text d × root.is (mended mends d) r
read_whole mends text r none told = (
  told.0,
  told.1,
  subst (λ (e : Data). root.is e r)
      (sym (leaves_whole mends none text told.0 told.1 (root.needs told.0 r told.2))) told.2,
)
