-- Which layer an error names, and that none above it holds.
use Rattle.std.proofs.Common.{ℕ, ◌≡◌, ◌≢◌, List, [], sym, ap, subst, ◌∙◌, refl, inr}
use Rattle.std.specs.Prelude.{Option}
use Rattle.serde_json.specs.Data.{Data}
use Rattle.gltf_glb.specs.Causes.{from_json}
use Rattle.gltf_glb.specs.declared.error.Error.{Error}
use Rattle.gltf_glb.specs.declared.error.Error.TheVariants as error
use Rattle.gltf_json_record.specs.declared.error.Error as json
use Rattle.gltf_json_record.specs.declared.error.Error.TheVariants.{Memory}
use Rattle.gltf_json.specs.Documents.{root}
use Rattle.gltf_json.specs.Reading.{Reads, Refuses}
use Rattle.gltf_json.specs.declared.root.Root.{Root}
use Rattle.gltf_validation.specs.Documents.{Faults}
use Rattle.gltf.specs.Errors.{OutOfMemoryOr, TellsRules}
use Rattle.gltf.specs.Import.{AreParts, RefusesRecords}
use Rattle.gltf.specs.Import.{IsOnlyDocument, IsNoDocument, IsNoValidDocument}
use Rattle.gltf.proofs.Answered.{told_other}

-- ---- the text and the records

pub refuses_text : (bytes text : List ℕ) (blob : Option (List ℕ)) (cause : json.Error)
    → AreParts bytes text blob → Refuses text cause
    → OutOfMemoryOr (RefusesRecords bytes) (from_json cause)
refuses_text bytes text blob Memory parts told = tt
refuses_text bytes text blob cause parts told = inr (record {
  text = text;
  blob = blob;
  parts = parts;
  cause = cause;
  names = refl;
  not_memory = λ is. cc;
  fails = told;
})

-- where no value of the one text fits, the bytes are no document
pub no_document : (bytes text : List ℕ) (blob : Option (List ℕ)) (cause : json.Error)
    → ((other : List ℕ) (rest : Option (List ℕ)) → AreParts bytes other rest → (other ≡ text)
    × (rest ≡ blob))
    → (cause ≢ Memory → (d : Data) → Reads text d → root.fits d → ⊥)
    → from_json cause ≢ error.Memory → IsNoDocument bytes
no_document bytes text blob cause only exact other s rest document =
    let same = only document.text rest document.parts in
    let reads : Reads text document.value =
    subst (λ t. Reads t document.value) same.0 document.reads in
    exact (λ is. other (ap from_json is)) document.value reads
    (root.needs document.value s document.records)

-- ---- the rules

breaks_some : (r : Root) (e : Error) → TellsRules r e → Faults r ≢ []
breaks_some r (error.Validation faults) told = told.1
breaks_some r _ told = absurd told

-- where the one document breaks a rule, the bytes are no valid one
pub no_valid_document : (bytes : List ℕ) (r : Root) (blob : Option (List ℕ)) (e : Error)
    → IsOnlyDocument bytes r blob
    → ((s : Root) → root.content s ≡ root.content r → Faults s ≡ Faults r)
    → OutOfMemoryOr (TellsRules r) e → e ≢ error.Memory → IsNoValidDocument bytes
no_valid_document bytes r blob e only alike told other s rest valid =
    breaks_some r e (told_other (TellsRules r) e told other)
    (sym (alike s (only s rest valid.document).0) ∙ valid.rules)

-- ---- the document that was copied

-- what is the only document and blob is so in other places too
pub same_only : (bytes : List ℕ) (r s : Root) (blob copy : Option (List ℕ)) → s ≡ r
    → copy ≡ blob → IsOnlyDocument bytes r blob → IsOnlyDocument bytes s copy
same_only bytes r s blob copy same copied only =
    subst (λ x. IsOnlyDocument bytes x copy) (sym same)
    (subst (λ x. IsOnlyDocument bytes r x) (sym copied) only)
