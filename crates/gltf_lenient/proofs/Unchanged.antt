-- With nothing to mend, what is said of bytes, of files and of what a reader gives is what
-- `gltf_options` says of them with the same names: both ways, layer by layer.
use Rattle.std.proofs.Common.{◌≡◌, ◌↔◌, inl, inr, ℕ, List, Option, sym, subst}
use Rattle.serde_json.specs.Data.{Data}
use Rattle.gltf_glb.specs.declared.error.Error.{Error}
use Rattle.gltf_glb.specs.declared.error.Error.TheVariants as error
use Rattle.gltf_json_record.specs.declared.error.Error as json
use Rattle.gltf_json_record.specs.declared.error.Error.TheVariants.{Text, Record, Memory}
use Rattle.gltf_json.specs.Documents.{root}
use Rattle.gltf_json.specs.Reading.{Reads, Refuses}
use Rattle.gltf_json.specs.declared.root.Root.{Root}
use Rattle.gltf_names.specs.Named.{Named}
use Rattle.gltf_buffers.specs.Names.{Names}
use Rattle.gltf.specs.Import.{IsDocument, RefusesText}
use Rattle.gltf.specs.Reader.{StopsReadingOr, UnlessFailure}
use Rattle.gltf_mend.specs.Mended.{mended}
use Rattle.gltf_mend.specs.declared.mends.Mends.{Mends}
use Rattle.gltf_options.specs.Import.{IsDocumentBesides, IsValidBesides, AcceptsBesides}
use Rattle.gltf_options.specs.Import.{RefusesRulesBesides, RefusesBuffersBesides}
use Rattle.gltf_options.specs.Import.{RefusesDocumentBesides, RefusesImportBesides}
use Rattle.gltf_options.specs.Import.{IsOnlyBesides, IsNoValidBesides}
use Rattle.gltf_options.specs.Files.{IsAskedBesides, FailsOrRefusesBesides}
use Rattle.gltf_options.specs.Files.{RefusesFileAtBesides}
use Rattle.gltf_options.specs.Reader.{RefusesTextOrRulesBesides}
use Rattle.gltf_lenient.specs.Import.{also_of, IsMendedDocument, IsMendedBesides, IsValidMended}
use Rattle.gltf_lenient.specs.Import.{AcceptsMended, RefusesValue, RefusesMendedText}
use Rattle.gltf_lenient.specs.Import.{RefusesMendedRules, RefusesMendedBuffers, RefusesMended}
use Rattle.gltf_lenient.specs.Import.{RefusesMendedImport, IsOnlyMended, IsNoValidMended}
use Rattle.gltf_lenient.specs.Files.{IsAskedMended, FailsOrRefusesMended}
use Rattle.gltf_lenient.specs.Files.{RefusesMendedFileAt}
use Rattle.gltf_lenient.specs.Laws.{AreTheSameDocuments, AreRefusedAlike, AreTheSameImports}
use Rattle.gltf_lenient.specs.Laws.{AreImportsRefusedAlike, AreTheSameFiles}
use Rattle.gltf_lenient.specs.Laws.{AreFilesRefusedAlike, AreReadAlike, AreReadingsRefusedAlike}
use Rattle.gltf_lenient.specs.Nothing.{HasNothingToMend, MendsNothing}
use Rattle.gltf_lenient.specs.Reader.{RefusesMendedTextOrRules}
use Rattle.gltf_lenient.specs.declared.options.Options.{Options}

-- ---- why a text is none, or which fault stands in its value

plain_value : (mends : Mends) (text : List ℕ) (e : json.Error)
    → ((d : Data) → Reads text d → mended mends d ≡ d) → RefusesValue mends text e → Refuses text e
plain_value mends text (Text cause) same told = told
plain_value mends text (Record path fault) same (d, reads, stands) =
    (d, reads, subst (λ (x : Data). root.fault x path fault) (same d reads) stands)
plain_value mends text Memory same told = tt

mended_value : (mends : Mends) (text : List ℕ) (e : json.Error)
    → ((d : Data) → Reads text d → mended mends d ≡ d) → Refuses text e → RefusesValue mends text e
mended_value mends text (Text cause) same told = told
mended_value mends text (Record path fault) same (d, reads, stands) =
    (d, reads, subst (λ (x : Data). root.fault x path fault) (sym (same d reads)) stands)
mended_value mends text Memory same told = tt

-- ---- bytes with nothing to mend

module _ (options : Options) (bytes : List ℕ) (none : HasNothingToMend options.mends bytes) where
  abbrev also : List (List ℕ)
  also = also_of options

  plain_document : (r : Root) (blob : Option (List ℕ))
      → IsMendedDocument options.mends bytes r blob → IsDocument bytes r blob
  plain_document r blob m = record {
    text = m.text;
    value = m.value;
    parts = m.parts;
    reads = m.reads;
    records =
        subst (λ (d : Data). root.is d r) (none m.text blob m.value m.parts m.reads) m.records;
  }

  mended_document : (r : Root) (blob : Option (List ℕ)) → IsDocument bytes r blob
      → IsMendedDocument options.mends bytes r blob
  mended_document r blob p = record {
    text = p.text;
    value = p.value;
    parts = p.parts;
    reads = p.reads;
    records =
        subst (λ (d : Data). root.is d r) (sym (none p.text blob p.value p.parts p.reads))
        p.records;
  }

  plain_besides : (r : Root) (taken : List (List ℕ)) (blob : Option (List ℕ))
      → IsMendedBesides options bytes r taken blob → IsDocumentBesides also bytes r taken blob
  plain_besides r taken blob m = record {
    whole = m.whole;
    document = plain_document m.whole blob m.document;
    besides = m.besides;
    named = m.named;
  }

  mended_besides : (r : Root) (taken : List (List ℕ)) (blob : Option (List ℕ))
      → IsDocumentBesides also bytes r taken blob → IsMendedBesides options bytes r taken blob
  mended_besides r taken blob p = record {
    whole = p.whole;
    document = mended_document p.whole blob p.document;
    besides = p.besides;
    named = p.named;
  }

  valid_alike : (r : Root) (taken : List (List ℕ)) (blob : Option (List ℕ))
      → IsValidMended options bytes r taken blob ↔ IsValidBesides also bytes r taken blob
  valid_alike r taken blob = (
    λ m. record { document = plain_besides r taken blob m.document; rules = m.rules },
    λ p. record { document = mended_besides r taken blob p.document; rules = p.rules },
  )

  text_alike : (e : Error) → RefusesMendedText options.mends bytes e ↔ RefusesText bytes e
  text_alike e = (
    λ m. record {
      text = m.text;
      blob = m.blob;
      parts = m.parts;
      cause = m.cause;
      names = m.names;
      not_memory = m.not_memory;
      fails =
          plain_value options.mends m.text m.cause (λ d. none m.text m.blob d m.parts) m.fails;
    },
    λ p. record {
      text = p.text;
      blob = p.blob;
      parts = p.parts;
      cause = p.cause;
      names = p.names;
      not_memory = p.not_memory;
      fails =
          mended_value options.mends p.text p.cause (λ d. none p.text p.blob d p.parts) p.fails;
    },
  )

  rules_alike : (e : Error) → RefusesMendedRules options bytes e ↔ RefusesRulesBesides also bytes e
  rules_alike e = (
    λ m. record {
      whole = m.whole;
      blob = m.blob;
      document = plain_document m.whole m.blob m.document;
      fails = m.fails;
    },
    λ p. record {
      whole = p.whole;
      blob = p.blob;
      document = mended_document p.whole p.blob p.document;
      fails = p.fails;
    },
  )

  plain_refusal : (e : Error) → RefusesMended options bytes e → RefusesDocumentBesides also bytes e
  plain_refusal e (inl (inl container)) = inl (inl container)
  plain_refusal e (inl (inr text)) = inl (inr ((text_alike e).0 text))
  plain_refusal e (inr rules) = inr ((rules_alike e).0 rules)

  mended_refusal : (e : Error) → RefusesDocumentBesides also bytes e → RefusesMended options bytes e
  mended_refusal e (inl (inl container)) = inl (inl container)
  mended_refusal e (inl (inr text)) = inl (inr ((text_alike e).1 text))
  mended_refusal e (inr rules) = inr ((rules_alike e).1 rules)

  accepted_alike : (names : Names) (r : Root) (taken buffers : List (List ℕ))
      → AcceptsMended options names bytes r taken buffers
      ↔ AcceptsBesides also names bytes r taken buffers
  accepted_alike names r taken buffers = (
    λ m. record {
      blob = m.blob;
      valid = (valid_alike r taken m.blob).0 m.valid;
      data_ = m.data_;
    },
    λ p. record {
      blob = p.blob;
      valid = (valid_alike r taken p.blob).1 p.valid;
      data_ = p.data_;
    },
  )

  buffers_alike : (names : Names) (e : Error) → RefusesMendedBuffers options names bytes e
      ↔ RefusesBuffersBesides also names bytes e
  buffers_alike names e = (
    λ m. record {
      root = m.root;
      taken = m.taken;
      blob = m.blob;
      valid = (valid_alike m.root m.taken m.blob).0 m.valid;
      fails = m.fails;
    },
    λ p. record {
      root = p.root;
      taken = p.taken;
      blob = p.blob;
      valid = (valid_alike p.root p.taken p.blob).1 p.valid;
      fails = p.fails;
    },
  )

  plain_import_refusal : (names : Names) (e : Error) → RefusesMendedImport options names bytes e
      → RefusesImportBesides also names bytes e
  plain_import_refusal names e (inl refused) = inl (plain_refusal e refused)
  plain_import_refusal names e (inr buffers) = inr ((buffers_alike names e).0 buffers)

  mended_import_refusal : (names : Names) (e : Error) → RefusesImportBesides also names bytes e
      → RefusesMendedImport options names bytes e
  mended_import_refusal names e (inl refused) = inl (mended_refusal e refused)
  mended_import_refusal names e (inr buffers) = inr ((buffers_alike names e).1 buffers)

  asked_alike : (names : Names) (name : Named) → IsAskedMended options names bytes name
      ↔ IsAskedBesides also names bytes name
  asked_alike names name = (
    λ m. record {
      root = m.root;
      taken = m.taken;
      blob = m.blob;
      valid = (valid_alike m.root m.taken m.blob).0 m.valid;
      asked = m.asked;
    },
    λ p. record {
      root = p.root;
      taken = p.taken;
      blob = p.blob;
      valid = (valid_alike p.root p.taken p.blob).1 p.valid;
      asked = p.asked;
    },
  )

  plain_failure : (names : Names) (old new : List Named) (e : Error)
      → FailsOrRefusesMended options names bytes old new e
      → FailsOrRefusesBesides also names bytes old new e
  plain_failure names old new (error.Io cause) told =
      (told.0, (asked_alike names told.0).0 told.1, told.2)
  plain_failure names old new error.Memory told = told
  plain_failure names old new e told = (told.0, plain_import_refusal names e told.1)

  mended_failure : (names : Names) (old new : List Named) (e : Error)
      → FailsOrRefusesBesides also names bytes old new e
      → FailsOrRefusesMended options names bytes old new e
  mended_failure names old new (error.Io cause) told =
      (told.0, (asked_alike names told.0).1 told.1, told.2)
  mended_failure names old new error.Memory told = told
  mended_failure names old new e told = (told.0, mended_import_refusal names e told.1)

  only_alike : (r : Root) (taken : List (List ℕ)) (blob : Option (List ℕ))
      → IsOnlyMended options bytes r taken blob ↔ IsOnlyBesides also bytes r taken blob
  only_alike r taken blob = (
    λ only s others rest p. only s others rest (mended_besides s others rest p),
    λ only s others rest m. only s others rest (plain_besides s others rest m),
  )

  none_alike : IsNoValidMended options bytes ↔ IsNoValidBesides also bytes
  none_alike = (
    λ no s taken blob p. no s taken blob ((valid_alike s taken blob).1 p),
    λ no s taken blob m. no s taken blob ((valid_alike s taken blob).0 m),
  )

  plain_reading : (e : Error) → RefusesMendedTextOrRules options bytes e
      → RefusesTextOrRulesBesides also bytes e
  plain_reading e (inl text) = inl ((text_alike e).0 text)
  plain_reading e (inr rules) = inr ((rules_alike e).0 rules)

  mended_reading : (e : Error) → RefusesTextOrRulesBesides also bytes e
      → RefusesMendedTextOrRules options bytes e
  mended_reading e (inl text) = inl ((text_alike e).1 text)
  mended_reading e (inr rules) = inr ((rules_alike e).1 rules)

-- ---- what a reader gave

stops_alike : (P Q : List ℕ → Error → Type 0) (left : Option (List ℕ)) (came : List ℕ) (e : Error)
    → ((y : Error) → P came y → Q came y) → StopsReadingOr P left came e
    → StopsReadingOr Q left came e
stops_alike P Q left came error.Memory more told = tt
stops_alike P Q left came (error.Io cause) more told = told
stops_alike P Q left came (error.Binary cause) more told = told
stops_alike P Q left came e more told = (told.0, more e told.1)

unless_alike : (N M : List ℕ → Type 0) (came : List ℕ) (e : Error) → (N came → M came)
    → UnlessFailure N came e → UnlessFailure M came e
unless_alike N M came error.Memory more told = tt
unless_alike N M came (error.Io cause) more told = tt
unless_alike N M came e more told = more told

-- ---- files of a source

plain_file_refusal : (options : Options) (names : Names) (path : List ℕ) (old new : List Named)
    (e : Error) → MendsNothing options.mends → RefusesMendedFileAt options names path old new e
    → RefusesFileAtBesides (also_of options) names path old new e
plain_file_refusal options names path old new e none (inl unanswered) = inl unanswered
plain_file_refusal options names path old new e none (inr m) = inr (record {
  bytes = m.bytes;
  gives = m.gives;
  fails = plain_failure options m.bytes (none.stays m.bytes) names old new e m.fails;
})

mended_file_refusal : (options : Options) (names : Names) (path : List ℕ) (old new : List Named)
    (e : Error) → MendsNothing options.mends
    → RefusesFileAtBesides (also_of options) names path old new e
    → RefusesMendedFileAt options names path old new e
mended_file_refusal options names path old new e none (inl unanswered) = inl unanswered
mended_file_refusal options names path old new e none (inr p) = inr (record {
  bytes = p.bytes;
  gives = p.gives;
  fails = mended_failure options p.bytes (none.stays p.bytes) names old new e p.fails;
})

-- ---- the laws

pub same_documents : AreTheSameDocuments
same_documents options bytes none r taken blob = valid_alike options bytes none r taken blob

pub same_refusals : AreRefusedAlike
same_refusals options bytes none e =
    (plain_refusal options bytes none e, mended_refusal options bytes none e)

pub same_imports : AreTheSameImports
same_imports options bytes none names r taken buffers =
    accepted_alike options bytes none names r taken buffers

pub same_import_refusals : AreImportsRefusedAlike
same_import_refusals options bytes none names e = (
  plain_import_refusal options bytes none names e,
  mended_import_refusal options bytes none names e,
)

pub same_files : AreTheSameFiles
same_files options none names path r taken buffers = (
  λ m. record {
    bytes = m.bytes;
    gives = m.gives;
    accepted =
        (accepted_alike options m.bytes (none.stays m.bytes) names r taken buffers).0 m.accepted;
  },
  λ p. record {
    bytes = p.bytes;
    gives = p.gives;
    accepted =
        (accepted_alike options p.bytes (none.stays p.bytes) names r taken buffers).1 p.accepted;
  },
)

pub same_file_refusals : AreFilesRefusedAlike
same_file_refusals options none names path old new e = (
  plain_file_refusal options names path old new e none,
  mended_file_refusal options names path old new e none,
)

pub same_readings : AreReadAlike
same_readings options none left came r taken blob = (
  λ m. record {
    all = m.all;
    valid = (valid_alike options came (none.stays came) r taken blob).0 m.valid;
    only = (only_alike options came (none.stays came) r taken blob).0 m.only;
  },
  λ p. record {
    all = p.all;
    valid = (valid_alike options came (none.stays came) r taken blob).1 p.valid;
    only = (only_alike options came (none.stays came) r taken blob).1 p.only;
  },
)

pub same_reading_refusals : AreReadingsRefusedAlike
same_reading_refusals options none left came e = (
  λ m. record {
    fails =
        stops_alike (RefusesMendedTextOrRules options)
        (RefusesTextOrRulesBesides (also_of options)) left came e
        (plain_reading options came (none.stays came)) m.fails;
    exact =
        unless_alike (IsNoValidMended options) (IsNoValidBesides (also_of options)) came e
        (none_alike options came (none.stays came)).0 m.exact;
  },
  λ p. record {
    fails =
        stops_alike (RefusesTextOrRulesBesides (also_of options))
        (RefusesMendedTextOrRules options) left came e
        (mended_reading options came (none.stays came)) p.fails;
    exact =
        unless_alike (IsNoValidBesides (also_of options)) (IsNoValidMended options) came e
        (none_alike options came (none.stays came)).1 p.exact;
  },
)
