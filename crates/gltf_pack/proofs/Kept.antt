-- The import of what was repacked is that of the bytes before: the law `import_kept`. The lemmas of
-- the module take each outcome of an import (accepted, or refused for text, rules or buffers) from
-- a file to one whose parts are alike. They are used in both directions (`turned`). The parts of a
-- file and its answer are alike by three premises, which are laws: `one_reading` (a file has no
-- other parts), `reads_back` (the answer has the parts, filled up) and `spaces_behind` (what fills
-- up the text changes nothing); `filled_blob` is for the zeros that fill up the blob.
use Rattle.std.proofs.Common.{◌≡◌, ℕ, List, Option, option_map, subst, inl, inr}
use Rattle.std.proofs.Common.{◌-◌, ◌%◌, length}
use Rattle.gltf_glb.specs.Bytes.{padded}
use Rattle.gltf_glb.specs.Laws.{ReadsBack}
use Rattle.gltf.specs.Laws.{OneTextAndBlob}
use Rattle.gltf_glb.specs.declared.error.Error.{Error}
use Rattle.gltf_json.specs.Reading.{Reads, Refuses}
use Rattle.gltf_json.specs.declared.root.Root.{Root}
use Rattle.gltf_json_record.specs.declared.error.Error as json
use Rattle.gltf_json_record.specs.declared.error.Error.TheVariants.{Text, Record, Memory}
use Rattle.gltf_buffers.specs.Buffers.{sources_of, AreBytes, HasBufferFault}
use Rattle.gltf_buffers.specs.ErrorLaws.{names_more}
use Rattle.gltf_buffers.specs.Errors.{NamesFault}
use Rattle.gltf_buffers.specs.Names.{Nowhere}
use Rattle.gltf.specs.Import.{AreParts, IsDocument, IsValidDocument, Accepts}
use Rattle.gltf.specs.Import.{RefusesText, RefusesRules, RefusesBuffers, RefusesImport}
use Rattle.gltf_pack.specs.Laws.{SpacesBehind, ImportKept}
use Rattle.gltf_pack.proofs.Parts.{no_fault, answer_parts}
use Rattle.gltf_pack.proofs.Alike.{AreAlike, turned, same_buffers, same_fault, filled_blob}

-- a fault of the one text is one of the other
refused_text : (text other : List ℕ) (blob rest : Option (List ℕ)) (cause : json.Error)
    → AreAlike text other blob rest → Refuses text cause → Refuses other cause
refused_text text other blob rest (Text refused) alike told =
    (told.0, λ d reads. told.1 d (alike.unread d reads))
refused_text text other blob rest (Record path fault) alike told =
    (told.0, alike.read told.0 told.1, told.2)
refused_text text other blob rest Memory alike told = tt

-- one file with the parts of one, another with parts that are alike
module _ (law : OneTextAndBlob) (bytes answer text other : List ℕ) (blob rest : Option (List ℕ))
    (parts : AreParts bytes text blob) (others : AreParts answer other rest)
    (alike : AreAlike text other blob rest) where
  the_text : (t : List ℕ) (b : Option (List ℕ)) → AreParts bytes t b → (t ≡ text) × (b ≡ blob)
  the_text t b are = law bytes text t blob b parts are

  document_too : (r : Root) (b : Option (List ℕ)) → IsDocument bytes r b → IsDocument answer r rest
  document_too r b document =
      let same = the_text document.text b document.parts in
      let reads : Reads text document.value =
      subst (λ t. Reads t document.value) same.0 document.reads in
      record {
        text = other;
        value = document.value;
        parts = others;
        reads = alike.read document.value reads;
        records = document.records;
      }

  valid_too : (r : Root) (b : Option (List ℕ)) → IsValidDocument bytes r b
      → IsValidDocument answer r rest
  valid_too r b valid =
      record { document = document_too r b valid.document; rules = valid.rules }

  the_blob : (r : Root) (b : Option (List ℕ)) → IsDocument bytes r b → b ≡ blob
  the_blob r b document = (the_text document.text b document.parts).1

  accepts_too : (r : Root) (buffers : List (List ℕ)) → Accepts bytes r buffers
      → Accepts answer r buffers
  accepts_too r buffers accepts =
      let same = the_blob r accepts.blob accepts.valid.document in
      let read : AreBytes Nowhere (sources_of r) blob (length (sources_of r)) buffers =
      subst (λ b. AreBytes Nowhere (sources_of r) b (length (sources_of r)) buffers) same
      accepts.data_ in
      record {
        blob = rest;
        valid = valid_too r accepts.blob accepts.valid;
        data_ = same_buffers text other blob rest alike (sources_of r) (length (sources_of r))
            buffers read;
      }

  text_too : (e : Error) → RefusesText bytes e → RefusesText answer e
  text_too e refused =
      let same = the_text refused.text refused.blob refused.parts in
      let fails : Refuses text refused.cause =
      subst (λ t. Refuses t refused.cause) same.0 refused.fails in
      record {
        text = other;
        blob = rest;
        parts = others;
        cause = refused.cause;
        names = refused.names;
        not_memory = refused.not_memory;
        fails = refused_text text other blob rest refused.cause alike fails;
      }

  buffers_too : (e : Error) → RefusesBuffers bytes e → RefusesBuffers answer e
  buffers_too e refused =
      let same = the_blob refused.root refused.blob refused.valid.document in
      let fails : NamesFault (HasBufferFault Nowhere (sources_of refused.root) blob) e =
      subst (λ b. NamesFault (HasBufferFault Nowhere (sources_of refused.root) b) e) same
      refused.fails in
      record {
        root = refused.root;
        blob = rest;
        valid = valid_too refused.root refused.blob refused.valid;
        fails = names_more (HasBufferFault Nowhere (sources_of refused.root) blob)
            (HasBufferFault Nowhere (sources_of refused.root) rest) e
            (same_fault text other blob rest alike (sources_of refused.root)) fails;
      }

  rules_too : (e : Error) → RefusesRules bytes e → RefusesRules answer e
  rules_too e refused = record {
    root = refused.root;
    blob = rest;
    document = document_too refused.root refused.blob refused.document;
    fails = refused.fails;
  }

  refused_too : (e : Error) → RefusesImport bytes e → RefusesImport answer e
  refused_too e (inl (inl (inl refused))) = absurd (no_fault bytes text blob e parts refused)
  refused_too e (inl (inl (inr refused))) = inl (inl (inr (text_too e refused)))
  refused_too e (inl (inr refused)) = inl (inr (rules_too e refused))
  refused_too e (inr refused) = inr (buffers_too e refused)

pub import_kept : OneTextAndBlob → ReadsBack → SpacesBehind → ImportKept
import_kept law back spaces bytes answer is =
    let text = is.text in
    let blob = is.blob in
    let other = padded 32 is.text in
    let rest = option_map (padded 0) is.blob in
    let others = answer_parts back bytes answer is in
    let alike : AreAlike is.text (padded 32 is.text) is.blob (option_map (padded 0) is.blob) =
    record {
      read = λ d. (spaces ((4 - length is.text % 4) % 4) is.text d).1;
      unread = λ d. (spaces ((4 - length is.text % 4) % 4) is.text d).0;
      bytes = λ sources i source g. filled_blob sources is.blob i source g;
    } in
    let back_again = turned text other blob rest alike in
    record {
      accepted = λ r buffers. (
        accepts_too law bytes answer text other blob rest is.parts others alike r buffers,
        accepts_too law answer bytes other text rest blob others is.parts back_again r buffers,
      );
      refused = λ e. (
        refused_too law bytes answer text other blob rest is.parts others alike e,
        refused_too law answer bytes other text rest blob others is.parts back_again e,
      );
    }
