-- From the parts of a file to the records of its mended value.
use Rattle.std.proofs.Common.{◌≡◌, ◌≢◌, ℕ, List, inl, inr, refl, sym, ap, subst}
use Rattle.std.specs.Prelude.{Option}
use Rattle.serde_json.specs.Data.{Data}
use Rattle.gltf_glb.specs.Causes.{from_json}
use Rattle.gltf_glb.specs.declared.error.Error.{Error}
use Rattle.gltf_glb.specs.declared.error.Error.TheVariants as error
use Rattle.gltf_json_record.specs.declared.error.Error as json
use Rattle.gltf_json_record.specs.declared.error.Error.TheVariants.{Memory}
use Rattle.gltf_json.specs.Documents.{root}
use Rattle.gltf_json.specs.Reading.{Reads}
use Rattle.gltf_json.specs.declared.root.Root.{Root}
use Rattle.gltf_mend.specs.Mended.{mended}
use Rattle.gltf_mend.specs.declared.mends.Mends.{Mends}
use Rattle.gltf.specs.Errors.{OutOfMemoryOr}
use Rattle.gltf.specs.Import.{AreParts, RefusesContainer}
use Rattle.gltf_lenient.specs.Import.{IsOnlyMendedDocument, IsNoMendedDocument}
use Rattle.gltf_lenient.specs.Import.{RefusesMendedRecords, RefusesValue}

-- the premise: the bytes have these parts and no others
abbrev pub AreOnlyParts : List ℕ → List ℕ → Option (List ℕ) → Type 0
AreOnlyParts bytes text blob = (other : List ℕ) (rest : Option (List ℕ))
    → AreParts bytes other rest → (other ≡ text) × (rest ≡ blob)

-- ---- what becomes of an error

pub refuses_parts : (mends : Mends) (bytes : List ℕ) (e : Error)
    → OutOfMemoryOr (RefusesContainer bytes) e
    → OutOfMemoryOr (RefusesMendedRecords mends bytes) e
refuses_parts mends bytes error.Memory refused = tt
refuses_parts mends bytes e refused = inl refused

pub refuses_text : (mends : Mends) (bytes text : List ℕ) (blob : Option (List ℕ))
    (cause : json.Error) → AreParts bytes text blob → RefusesValue mends text cause
    → OutOfMemoryOr (RefusesMendedRecords mends bytes) (from_json cause)
refuses_text mends bytes text blob Memory parts told = tt
refuses_text mends bytes text blob cause parts told = inr (record {
  text = text;
  blob = blob;
  parts = parts;
  cause = cause;
  names = refl;
  not_memory = λ is. cc;
  fails = told;
})

-- ---- one document

-- where no mended value of the one text fits, the bytes are no mended document
pub no_mended : (mends : Mends) (bytes text : List ℕ) (blob : Option (List ℕ))
    (cause : json.Error) → AreOnlyParts bytes text blob
    → (cause ≢ Memory → (d : Data) (s : Root) → Reads text d → root.is (mended mends d) s → ⊥)
    → from_json cause ≢ error.Memory → IsNoMendedDocument mends bytes
no_mended mends bytes text blob cause only exact other s rest document =
    let same = only document.text rest document.parts in
    exact (λ is. other (ap from_json is)) document.value s
    (subst (λ t. Reads t document.value) same.0 document.reads) document.records

pub only_mended : (mends : Mends) (bytes text : List ℕ) (blob : Option (List ℕ)) (r : Root)
    → AreOnlyParts bytes text blob
    → ((d : Data) (s : Root) → Reads text d → root.is (mended mends d) s
    → root.content s ≡ root.content r)
    → IsOnlyMendedDocument mends bytes r blob
only_mended mends bytes text blob r only alike s rest document =
    let same = only document.text rest document.parts in
    let reads = subst (λ t. Reads t document.value) same.0 document.reads in
    (alike document.value s reads document.records, same.1)

-- what is the only document and blob is so in other places too
pub same_only : (mends : Mends) (bytes : List ℕ) (r s : Root) (blob copy : Option (List ℕ))
    → s ≡ r → copy ≡ blob → IsOnlyMendedDocument mends bytes r blob
    → IsOnlyMendedDocument mends bytes s copy
same_only mends bytes r s blob copy same copied only =
    subst (λ x. IsOnlyMendedDocument mends bytes x copy) (sym same)
    (subst (λ x. IsOnlyMendedDocument mends bytes r x) (sym copied) only)
