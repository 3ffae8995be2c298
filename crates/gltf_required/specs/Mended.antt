-- Where a document is mended, what is accepted is what `gltf_lenient` accepts: lemmas.
use Rattle.std.specs.Prelude.{ℕ, List, Option, Some, length}
use Rattle.std.proofs.Common.{refl, subst, sym, inl, inr}
use Rattle.gltf_glb.specs.declared.error.Error.{Error}
use Rattle.gltf_glb.specs.declared.error.Error.TheVariants as error
use Rattle.gltf_json_record.specs.declared.error.Error as json
use Rattle.gltf_json_record.specs.declared.error.Error.TheVariants.{Text, Record, Memory}
use Rattle.gltf_json.specs.declared.root.Root.{Root}
use Rattle.gltf_names.specs.Named.{Named}
use Rattle.gltf_options.specs.Besides.{required_of}
use Rattle.gltf_options.specs.Names.{taken_of}
use Rattle.gltf_buffers.specs.Buffers.{Source, AreBytes, HasBufferFault, IsAskedFor}
use Rattle.gltf_buffers.specs.Errors.{NamesFault}
use Rattle.gltf_buffers.specs.Names.{Names}
use Rattle.gltf_lenient.specs.Files.{FailsOrRefusesMended, IsAskedMended}
use Rattle.gltf_lenient.specs.Import.{also_of, IsMendedDocument, IsValidMended, RefusesMended}
use Rattle.gltf_lenient.specs.Import.{RefusesMendedImport, RefusesMendedRecords, RefusesValue}
use Rattle.gltf_lenient.specs.declared.options.Options.{Options}
use Rattle.gltf_required.specs.Files.{FailsOrRefusesAs, IsAskedAs}
use Rattle.gltf_required.specs.Import.{IsDocumentAs, IsValidAs, RefusesDocumentAs}
use Rattle.gltf_required.specs.Import.{RefusesImportAs, RefusesMendedBy, RefusesRecordsAs}
use Rattle.gltf_required.specs.Laws.{MendedIsTheImport, RefusedAsByTheMended}
use Rattle.gltf_required.specs.Left.{same_sources}
use Rattle.gltf_required.specs.declared.required.Required.TheVariants.{Mended}

module _ (options : Options) (bytes : List ℕ) where
  document_of : (r : Root) (blob : Option (List ℕ)) → IsDocumentAs (Mended options) bytes r blob
      → IsMendedDocument options.mends bytes r blob
  document_of r blob is = record {
    text = is.text;
    value = is.value;
    parts = is.parts;
    reads = is.reads;
    records = is.records;
  }

  -- the names that pass are those that are left out
  valid_of : (r : Root) (blob : Option (List ℕ)) (is : IsValidAs (Mended options) bytes r blob)
      → IsValidMended options bytes is.left (taken_of (also_of options) (required_of r)) blob
  valid_of r blob is = record {
    document =
        record {
          whole = r;
          document = document_of r blob is.document;
          besides = is.is_left;
          named = refl;
        };
    rules = is.rules;
  }

  value_of : (text : List ℕ) (cause : json.Error)
      → RefusesMendedBy (Some options.mends) text cause → RefusesValue options.mends text cause
  value_of text (Text refused) told = told
  value_of text (Record path fault) told = told
  value_of text Memory told = told

  records_of : (e : Error) → RefusesRecordsAs (Mended options) bytes e
      → RefusesMendedRecords options.mends bytes e
  records_of e (inl told) = inl told
  records_of e (inr told) =
      inr (record {
        text = told.text;
        blob = told.blob;
        parts = told.parts;
        cause = told.cause;
        names = told.names;
        not_memory = told.not_memory;
        fails = value_of told.text told.cause told.fails;
      })

  refused_of : (e : Error) → RefusesDocumentAs (Mended options) bytes e
      → RefusesMended options bytes e
  refused_of e (inl told) = inl (records_of e told)
  refused_of e (inr told) =
      inr (record {
        whole = told.root;
        blob = told.blob;
        document = document_of told.root told.blob told.document;
        fails = told.fails;
      })

  import_of : (names : Names) (e : Error) → RefusesImportAs (Mended options) names bytes e
      → RefusesMendedImport options names bytes e
  import_of names e (inl told) = inl (refused_of e told)
  import_of names e (inr told) =
      inr (record {
        root = told.valid.left;
        taken = taken_of (also_of options) (required_of told.root);
        blob = told.blob;
        valid = valid_of told.root told.blob told.valid;
        fails =
            subst (λ (xs : List Source). NamesFault (HasBufferFault names xs told.blob) e)
            (sym (same_sources (Mended options) told.root told.valid.left told.valid.is_left))
            told.fails;
      })

  asked_of : (names : Names) (name : Named) → IsAskedAs (Mended options) names bytes name
      → IsAskedMended options names bytes name
  asked_of names name is = record {
    root = is.valid.left;
    taken = taken_of (also_of options) (required_of is.root);
    blob = is.blob;
    valid = valid_of is.root is.blob is.valid;
    asked =
        subst (λ (xs : List Source). IsAskedFor names xs is.blob name)
        (sym (same_sources (Mended options) is.root is.valid.left is.valid.is_left)) is.asked;
  }

  fails_of : (names : Names) (old new : List Named) (e : Error)
      → FailsOrRefusesAs (Mended options) names bytes old new e
      → FailsOrRefusesMended options names bytes old new e
  fails_of names old new (error.Io cause) told =
      (told.0, asked_of names told.0 told.1, told.2)
  fails_of names old new error.Memory told = told
  fails_of names old new e told = (told.0, import_of names e told.1)

pub accepted_of : MendedIsTheImport
accepted_of options names bytes r buffers is = record {
  left = is.valid.left;
  is_left = is.valid.is_left;
  accepted =
      record {
        blob = is.blob;
        valid = valid_of options bytes r is.blob is.valid;
        data_ =
            subst (λ (xs : List Source). AreBytes names xs is.blob (length xs) buffers)
            (sym (same_sources (Mended options) r is.valid.left is.valid.is_left)) is.data_;
      };
}

pub file_of : RefusedAsByTheMended
file_of options names path old new e (inl told) = inl told
file_of options names path old new e (inr told) =
    inr (record {
      bytes = told.bytes;
      gives = told.gives;
      fails = fails_of options told.bytes names old new e told.told;
    })
