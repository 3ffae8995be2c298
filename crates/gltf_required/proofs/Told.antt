-- The layers of a file up to its document: for the contract of `document_as`.
use Rattle.std.proofs.Common.{◌≡◌, ℕ, List, [], Option, inl, inr, refl}
use Rattle.serde_json.specs.Data.{Data}
use Rattle.gltf_glb.specs.Causes.{from_json}
use Rattle.gltf_glb.specs.declared.error.Error.{Error}
use Rattle.gltf_glb.specs.declared.error.Error.TheVariants as error
use Rattle.gltf_json.specs.Documents.{root}
use Rattle.gltf_json.specs.Reading.{Reads}
use Rattle.gltf_json.specs.declared.root.Root.{Root}
use Rattle.gltf_json_record.specs.declared.error.Error as json
use Rattle.gltf_json_record.specs.declared.error.Error.TheVariants.{Memory}
use Rattle.gltf_validation.specs.Documents.{Faults}
use Rattle.gltf.specs.Errors.{OutOfMemoryOr}
use Rattle.gltf.specs.Import.{AreParts, RefusesContainer}
use Rattle.gltf_required.specs.Import.{IsDocumentAs, IsOpenedAs, RefusesDocumentAs}
use Rattle.gltf_required.specs.Import.{RefusesValueAs}
use Rattle.gltf_required.specs.Required.{IsLeft, TellsAs, as_read}
use Rattle.gltf_required.specs.declared.required.Required.{Required}

or_memory : (P : Error → Type 0) (e : Error) → P e → OutOfMemoryOr P e
or_memory P error.Memory p = tt
or_memory P _ p = p

pub container_told : (required : Required) (bytes : List ℕ) (e : Error) → RefusesContainer bytes e
    → OutOfMemoryOr (RefusesDocumentAs required bytes) e
container_told required bytes e told =
    or_memory (RefusesDocumentAs required bytes) e (inl (inl told))

pub text_told : (required : Required) (bytes text : List ℕ) (blob : Option (List ℕ))
    (cause : json.Error) → AreParts bytes text blob → RefusesValueAs required text cause
    → OutOfMemoryOr (RefusesDocumentAs required bytes) (from_json cause)
text_told required bytes text blob Memory parts told = tt
text_told required bytes text blob cause parts told = inl (inr (record {
  text = text;
  blob = blob;
  parts = parts;
  cause = cause;
  names = refl;
  not_memory = λ is. cc;
  fails = told;
}))

pub rules_told : (required : Required) (bytes : List ℕ) (r : Root) (blob : Option (List ℕ))
    (e : Error) → IsDocumentAs required bytes r blob → OutOfMemoryOr (TellsAs required r) e
    → OutOfMemoryOr (RefusesDocumentAs required bytes) e
rules_told required bytes r blob error.Memory document told = tt
rules_told required bytes r blob e document told =
    or_memory (RefusesDocumentAs required bytes) e
    (inr (record { root = r; blob = blob; document = document; fails = told }))

pub is_document : (required : Required) (bytes text : List ℕ) (blob : Option (List ℕ)) (r : Root)
    → AreParts bytes text blob → ((d : Data) × Reads text d × root.is (as_read required d) r)
    → IsDocumentAs required bytes r blob
is_document required bytes text blob r parts read = record {
  text = text;
  value = read.0;
  parts = parts;
  reads = read.1;
  records = read.2;
}

pub is_opened : (required : Required) (bytes : List ℕ) (blob : Option (List ℕ)) (r s : Root)
    → IsDocumentAs required bytes r blob → IsLeft required r s → Faults s ≡ []
    → IsOpenedAs required bytes s blob
is_opened required bytes blob r s document is rules =
    record { root = r; document = document; is_left = is; rules = rules }
