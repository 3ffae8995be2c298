-- What is left of a document, and the document: lemmas.
use Rattle.std.specs.Prelude.{◌≡◌, ℕ, List, [], Option, None}
use Rattle.std.proofs.Common.{refl, ap, subst, inl, inr}
use Rattle.gltf_glb.specs.declared.error.Error.{Error}
use Rattle.gltf_glb.specs.declared.error.Error.TheVariants as error
use Rattle.gltf_json_record.specs.declared.error.Error as json
use Rattle.gltf_json_record.specs.declared.error.Error.TheVariants.{Text, Record, Memory}
use Rattle.gltf_json.specs.Reading.{Refuses}
use Rattle.gltf_json.specs.declared.root.Root.{Root}
use Rattle.gltf_names.specs.Named.{Named}
use Rattle.gltf_validation.specs.Documents.{Faults}
use Rattle.gltf_buffers.specs.Buffers.{sources_of}
use Rattle.gltf_buffers.specs.Names.{Names}
use Rattle.gltf.specs.Files.{RefusesFileAt, FailsOrRefuses, IsAskedOfFile}
use Rattle.gltf.specs.Import.{AcceptsWith, IsDocument, IsValidDocument, RefusesDocument}
use Rattle.gltf.specs.Import.{RefusesImportWith}
use Rattle.gltf_required.specs.Files.{RefusesFileAs, FailsOrRefusesAs, IsAskedAs}
use Rattle.gltf_required.specs.Import.{AcceptsAs, IsDocumentAs, IsRead, IsValidAs}
use Rattle.gltf_required.specs.Import.{RefusesDocumentAs, RefusesImportAs, RefusesMendedBy}
use Rattle.gltf_required.specs.Required.{IsLeft}
use Rattle.gltf_required.specs.declared.required.Required.{Required}
use Rattle.gltf_required.specs.declared.required.Required.TheVariants.{Supported, Also, All}
use Rattle.gltf_required.specs.declared.required.Required.TheVariants.{Mended, AllMended}

pub others_are : (required : Required) (r s : Root) → IsLeft required r s
    → s ≡ record r { extensions_required = s.extensions_required }
others_are Supported r s is =
    subst (λ (x : Root). s ≡ record x { extensions_required = s.extensions_required }) is refl
others_are (Also options) r s is = is.others
others_are All r s is = is.others
others_are (Mended options) r s is = is.others
others_are (AllMended mends) r s is = is.others

-- it has the same buffers
pub same_sources : (required : Required) (r s : Root) → IsLeft required r s
    → sources_of s ≡ sources_of r
same_sources required r s is = ap sources_of (others_are required r s is)

pub read_of : (required : Required) (names : Names) (bytes : List ℕ) (r : Root)
    (buffers : List (List ℕ)) → AcceptsAs required names bytes r buffers
    → IsRead required names bytes r buffers
read_of required names bytes r buffers is =
    record { blob = is.blob; document = is.valid.document; data_ = is.data_ }

-- ---- where no further name passes

plain_document : (bytes : List ℕ) (r : Root) (blob : Option (List ℕ))
    → IsDocumentAs Supported bytes r blob → IsDocument bytes r blob
plain_document bytes r blob is = record {
  text = is.text;
  value = is.value;
  parts = is.parts;
  reads = is.reads;
  records = is.records;
}

pub valid_of : (bytes : List ℕ) (r : Root) (blob : Option (List ℕ))
    → IsValidAs Supported bytes r blob → IsValidDocument bytes r blob
valid_of bytes r blob is = record {
  document = plain_document bytes r blob is.document;
  rules = subst (λ (x : Root). Faults x ≡ []) is.is_left is.rules;
}

pub accepted_of : (names : Names) (bytes : List ℕ) (r : Root) (buffers : List (List ℕ))
    → AcceptsAs Supported names bytes r buffers → AcceptsWith names bytes r buffers
accepted_of names bytes r buffers is =
    record { blob = is.blob; valid = valid_of bytes r is.blob is.valid; data_ = is.data_ }

plain_value : (text : List ℕ) (cause : json.Error) → RefusesMendedBy None text cause
    → Refuses text cause
plain_value text (Text refused) told = told
plain_value text (Record path fault) told = told
plain_value text Memory told = told

pub document_of : (bytes : List ℕ) (e : Error) → RefusesDocumentAs Supported bytes e
    → RefusesDocument bytes e
document_of bytes e (inl (inl told)) = inl (inl told)
document_of bytes e (inl (inr told)) =
    inl (inr (record {
      text = told.text;
      blob = told.blob;
      parts = told.parts;
      cause = told.cause;
      names = told.names;
      not_memory = told.not_memory;
      fails = plain_value told.text told.cause told.fails;
    }))
document_of bytes e (inr told) =
    inr (record {
      root = told.root;
      blob = told.blob;
      document = plain_document bytes told.root told.blob told.document;
      fails = told.fails;
    })

pub import_of : (names : Names) (bytes : List ℕ) (e : Error)
    → RefusesImportAs Supported names bytes e → RefusesImportWith names bytes e
import_of names bytes e (inl told) = inl (document_of bytes e told)
import_of names bytes e (inr told) =
    inr (record {
      root = told.root;
      blob = told.blob;
      valid = valid_of bytes told.root told.blob told.valid;
      fails = told.fails;
    })

asked_of : (names : Names) (bytes : List ℕ) (name : Named) → IsAskedAs Supported names bytes name
    → IsAskedOfFile names bytes name
asked_of names bytes name is = record {
  root = is.root;
  blob = is.blob;
  valid = valid_of bytes is.root is.blob is.valid;
  asked = is.asked;
}

fails_of : (names : Names) (bytes : List ℕ) (old new : List Named) (e : Error)
    → FailsOrRefusesAs Supported names bytes old new e → FailsOrRefuses names bytes old new e
fails_of names bytes old new (error.Io cause) told =
    (told.0, asked_of names bytes told.0 told.1, told.2)
fails_of names bytes old new error.Memory told = told
fails_of names bytes old new e told = (told.0, import_of names bytes e told.1)

pub file_of : (names : Names) (path : List ℕ) (old new : List Named) (e : Error)
    → RefusesFileAs Supported names path old new e → RefusesFileAt names path old new e
file_of names path old new e (inl told) = inl told
file_of names path old new e (inr told) =
    inr (record {
      bytes = told.bytes;
      gives = told.gives;
      told = fails_of names told.bytes old new e told.told;
    })
