-- No bytes are both accepted, where no name can be asked for, and refused, where it is known what
-- names hold. The premises (`Law`) are laws of the crates below.
use Rattle.std.proofs.Common.{◌≡◌, ◌≢◌, ℕ, List, [], ◌∷◌, ◌++◌, length, get_or, map, append_assoc}
use Rattle.std.proofs.Common.{Option, Some, None, Result, Ok, Err, Bool, true, false, bytes_eq}
use Rattle.std.proofs.Common.{arith}
use Rattle.std.proofs.Common.{refl, sym, ap, subst, ◌∙◌, inl, inr}
use Rattle.std.proofs.lemmas.Slice.Eq.{bytes_eq-Decides}
use Rattle.std.specs.List.{list_any}
use Rattle.std.specs.Prelude.{◌||◌, ⊤}
use Rattle.serde_json.specs.Data.{Data}
use Rattle.serde_json.specs.Read.{read}
use Rattle.gltf_json_record.specs.Member.{is_one_of}
use Rattle.gltf_json_record.specs.declared.error.Error as json
use Rattle.gltf_json_record.specs.declared.error.Error.TheVariants.{Text, Record}
use Rattle.gltf_json_record.specs.declared.error.Error.TheVariants.{Memory as TextMemory}
use Rattle.gltf_json.specs.Alike.{AreAlikeInEachMember}
use Rattle.gltf_json.specs.Documents.{root}
use Rattle.gltf_json.specs.Reading.{Reads}
use Rattle.gltf_json.specs.declared.root.Root.{Root}
use Rattle.gltf_validation.specs.Documents.{Faults}
use Rattle.gltf_glb.specs.declared.error.Error.{Error}
use Rattle.gltf_glb.specs.declared.error.Error.TheVariants as error
use Rattle.gltf_names.specs.Named.{Named, File}
use Rattle.gltf_buffers.specs.Buffers.{BufferFault, External, Source, HasBufferFault, AreBytes}
use Rattle.gltf_buffers.specs.Buffers.{IsBytesOf, bytes_of, bytes_outside, checked_bytes}
use Rattle.gltf_buffers.specs.Buffers.{filled_bytes, meant_bytes, raw_bytes, name_at, blob_for}
use Rattle.gltf_buffers.specs.Buffers.{sources_of}
use Rattle.gltf_buffers.specs.ErrorLaws.{named_fault}
use Rattle.gltf_buffers.specs.Errors.{NamesFault, IsUnanswered}
use Rattle.gltf_buffers.specs.Names.{Names, Nowhere, Held, AreKnown, MayBeGiven, name_of}
use Rattle.gltf_buffers.specs.Uri.{Meaning, uri_of}
use Rattle.gltf_buffers.specs.Uri as uri
use Rattle.gltf.specs.Errors.{TellsRules}
use Rattle.gltf.specs.Import.{AreParts, RefusesContainer}
use Rattle.gltf.specs.Laws.{OneTextAndBlob}
use Rattle.gltf_options.specs.Alike.{AreLeftAlike, BreakTheSameBesides, HaveNoBuffers}
use Rattle.gltf_options.specs.Besides.{IsBesides, required_of, listed}
use Rattle.gltf_options.specs.Broken.{RefusesBesides, faults_besides}
use Rattle.gltf_options.specs.Laws.{AreBrokenWithout}
use Rattle.gltf_options.specs.Names.{left_of}
use Rattle.gltf_options.specs.Places.{places_left, in_file}
use Rattle.gltf_required.specs.Files.{RefusesFileAs, FailsOrRefusesAs}
use Rattle.gltf_mend.specs.declared.mends.Mends.{Mends}
use Rattle.gltf_lenient.specs.Import.{also_of}
use Rattle.gltf_required.specs.Import.{AcceptsAs, IsDocumentAs, RefusesImportAs, RefusesTextAs}
use Rattle.gltf_required.specs.Import.{RefusesMendedBy, RefusesValueAs}
use Rattle.gltf_required.specs.Required.{IsLeft, IsBare, TellsAs, TellsBare, as_read, mended_by}
use Rattle.gltf_required.specs.Required.{mends_of}
use Rattle.gltf_required.specs.declared.required.Required.{Required}
use Rattle.gltf_required.specs.declared.required.Required.TheVariants.{Supported, Also, All}
use Rattle.gltf_required.specs.declared.required.Required.TheVariants.{Mended, AllMended}
use Rattle.gltf_bundle.specs.Bundle.{IsAcceptedAs}

-- ---- container, text and records

pub no_container : (bytes text : List ℕ) (blob : Option (List ℕ)) (e : Error)
    → AreParts bytes text blob → RefusesContainer bytes e → ⊥
unfolding AreParts
no_container bytes text blob e parts refused =
    let container = rw refused.begins at parts in
    let apart = refused.fault.only (Ok (text, blob)) container in cc

same_value : (d e : Data) → ◌≡◌ {A = Option Data} (Some d) (Some e) → d ≡ e
same_value d e same = cc

read_text : (o : Option Mends) (text : List ℕ) (d : Data) (r : Root) (cause : json.Error)
    → Reads text d → root.is (mended_by o d) r → cause ≢ TextMemory
    → RefusesMendedBy o text cause → ⊥
read_text o text d r (Text refused) reads is other fails = fails.1 d reads
read_text o text d r (Record path fault) reads is other fails =
    root.apart (mended_by o d) path fault (root.needs (mended_by o d) r is)
    (subst (λ (e : Data). root.fault (mended_by o e) path fault)
    (same_value fails.0 d (sym fails.1.1 ∙ reads.1)) fails.2)
read_text o text d r TextMemory reads is other fails = absurd (other refl)

pub no_text : OneTextAndBlob → (required : Required) (bytes : List ℕ) (r : Root)
    (blob : Option (List ℕ)) → IsDocumentAs required bytes r blob → (e : Error)
    → RefusesTextAs required bytes e → ⊥
no_text one required bytes r blob document e refused =
    let same = one bytes document.text refused.text blob refused.blob document.parts refused.parts
    in
    read_text (mends_of required) document.text document.value r refused.cause document.reads
    document.records refused.not_memory
    (subst (λ (t : List ℕ). RefusesValueAs required t refused.cause) same.0 refused.fails)

-- bytes are one document, and have one blob
pub one_document : OneTextAndBlob → (required : Required) (bytes : List ℕ) (r s : Root)
    (blob rest : Option (List ℕ)) → IsDocumentAs required bytes r blob
    → IsDocumentAs required bytes s rest → (root.content r ≡ root.content s) × (rest ≡ blob)
one_document one required bytes r s blob rest x y =
    let parts = one bytes x.text y.text blob rest x.parts y.parts in
    let value = same_value y.value x.value (sym y.reads.1 ∙ ap read parts.0 ∙ x.reads.1) in
    let other = subst (λ (d : Data). root.is (as_read required d) s) value y.records in
    (root.alike (as_read required x.value) r s x.records other, parts.1)

-- ---- names

abbrev AreFound : List (List ℕ) → List (List ℕ) → Type 0
AreFound also [] = ⊤
AreFound also (x ∷ xs) = (is_one_of also x ≡ true) × AreFound also xs

or_true : (a b : Bool) → b ≡ true → (a || b) ≡ true
or_true true b is = refl
or_true false b is = is

found_at : (before : List (List ℕ)) (x : List ℕ) (xs : List (List ℕ))
    → is_one_of (before ++ x ∷ xs) x ≡ true
found_at [] x xs =
    ap (λ (b : Bool). b || list_any (λ k. bytes_eq x k) xs) ((bytes_eq-Decides x x).1 refl)
found_at (y ∷ before) x xs =
    or_true (bytes_eq x y) (is_one_of (before ++ x ∷ xs) x) (found_at before x xs)

found_behind : (also before xs : List (List ℕ)) → also ≡ before ++ xs → AreFound also xs
found_behind also before [] is = tt
found_behind also before (x ∷ xs) is = (
  ap (λ (ys : List (List ℕ)). is_one_of ys x) is ∙ found_at before x xs,
  found_behind also (before ++ x ∷ []) xs (is ∙ sym (append_assoc before (x ∷ []) xs)),
)

none_left : (also xs : List (List ℕ)) → AreFound also xs → left_of also xs ≡ []
none_left also [] found = refl
none_left also (x ∷ xs) found = rw found.0 (none_left also xs found.1)

-- a document with no required name is one without the names that it requires
bare_besides : (also : List (List ℕ)) (r s : Root) → required_of r ≡ also → IsBare r s
    → IsBesides also r s
bare_besides also r s names bare = record {
  names =
      bare.names ∙ sym (none_left also also (found_behind also [] also refl))
      ∙ ap (left_of also) (sym names);
  others = bare.others;
}

-- ---- the whole

-- the premises
pub record Law : Type 0 where
  pub one : OneTextAndBlob
  pub members : (r s : Root) → root.content r ≡ root.content s → AreAlikeInEachMember r s
  pub rules : (r s : Root) → root.content r ≡ root.content s → Faults r ≡ Faults s
  pub besides : BreakTheSameBesides
  pub without : AreBrokenWithout
  pub left : AreLeftAlike
  pub buffers : HaveNoBuffers

-- ---- rules

tells_some : (r : Root) (e : Error) → TellsRules r e → Faults r ≢ []
tells_some r (error.Validation faults) told = told.1
tells_some r e told = absurd told

besides_some : (also : List (List ℕ)) (r : Root) (e : Error) → RefusesBesides also r e
    → faults_besides also r ≢ []
besides_some also r (error.Validation faults) told = told.1
besides_some also r e told = absurd told

no_rules_besides : Law → (also : List (List ℕ)) (r s left : Root)
    → root.content r ≡ root.content s → IsBesides also r left → Faults left ≡ [] → (e : Error)
    → RefusesBesides also s e → ⊥
no_rules_besides law also r s left same is none e told =
    besides_some also s e told
    (sym (law.besides also r s same) ∙ law.without also r left is
    ∙ ap (map (in_file (places_left also (required_of r)))) none)

no_rules_bare : Law → (r s left : Root) → root.content r ≡ root.content s → IsBare r left
    → Faults left ≡ [] → (e : Error) → TellsBare s e → ⊥
no_rules_bare law r s left same is none e told =
    let also = required_of r in
    let names : required_of s ≡ also = sym ((law.members r s same).extensions_required) in
    let one = bare_besides also r left refl is in
    let other = bare_besides also s told.0 names told.1 in
    let alike = law.left also r s left told.0 same one other in
    tells_some told.0 e told.2 (sym (law.rules left told.0 alike.0) ∙ none)

no_rules : Law → (required : Required) (r s left : Root) → root.content r ≡ root.content s
    → IsLeft required r left → Faults left ≡ [] → (e : Error) → TellsAs required s e → ⊥
no_rules law Supported r s left same is none e told =
    tells_some s e told (sym (law.rules r s same) ∙ sym (ap Faults is) ∙ none)
no_rules law (Also options) r s left same is none e told =
    no_rules_besides law (listed options) r s left same is none e told
no_rules law All r s left same is none e told = no_rules_bare law r s left same is none e told
no_rules law (Mended options) r s left same is none e told =
    no_rules_besides law (also_of options) r s left same is none e told
no_rules law (AllMended mends) r s left same is none e told =
    no_rules_bare law r s left same is none e told

-- ---- buffers

-- where a URI leads to bytes, and no name can be asked for, it leads to no name
may_mean : (names : Names) (meaning : Meaning) (given : Option (List ℕ)) (i declared : ℕ)
    (bytes : List ℕ) → MayBeGiven Nowhere (name_of meaning) given
    → checked_bytes i declared (filled_bytes (meant_bytes given meaning)) ≡ Ok bytes
    → MayBeGiven names (name_of meaning) given
may_mean names (uri.Payload text) given i declared bytes may is = tt
may_mean names uri.Unsupported given i declared bytes may is = tt
may_mean names (uri.File text) given i declared bytes may is =
    let never : ◌≡◌ {A = Result (List ℕ) BufferFault} (Err External) (Ok bytes) =
    subst (λ (g : Option (List ℕ)).
    checked_bytes i declared (filled_bytes (bytes_outside g)) ≡ Ok bytes) may is in
    cc
may_mean names (uri.Relative text) given i declared bytes may is =
    let never : ◌≡◌ {A = Result (List ℕ) BufferFault} (Err External) (Ok bytes) =
    subst (λ (g : Option (List ℕ)).
    checked_bytes i declared (filled_bytes (bytes_outside g)) ≡ Ok bytes) may is in
    cc

may_be : (names : Names) (link given blob : Option (List ℕ)) (i declared : ℕ) (bytes : List ℕ)
    → MayBeGiven Nowhere (name_at link) given
    → checked_bytes i declared (filled_bytes (raw_bytes given blob link)) ≡ Ok bytes
    → MayBeGiven names (name_at link) given
may_be names None given blob i declared bytes may is = tt
may_be names (Some text) given blob i declared bytes may is =
    may_mean names (uri_of text) given i declared bytes may is

bytes_anywhere : (names : Names) (blob : Option (List ℕ)) (i : ℕ) (source : Source)
    (bytes : List ℕ) → IsBytesOf Nowhere blob i source (Ok bytes)
    → IsBytesOf names blob i source (Ok bytes)
unfolding bytes_of
bytes_anywhere names blob i source bytes is = record {
  given = is.given;
  may = may_be names source.uri is.given blob i source.declared bytes is.may is.is;
  is = is.is;
}

all_anywhere : (names : Names) (sources : List Source) (blob : Option (List ℕ)) (n : ℕ)
    (buffers : List (List ℕ)) → AreBytes Nowhere sources blob n buffers
    → AreBytes names sources blob n buffers
all_anywhere names sources blob n buffers are = record {
  count = are.count;
  each =
      λ i source h at.
      bytes_anywhere names (blob_for sources blob i) i source (get_or buffers i [])
      (are.each i source h at);
}

no_buffers : Law → (names : Names) → AreKnown names → (r s : Root) (blob : Option (List ℕ))
    (buffers : List (List ℕ)) → root.content r ≡ root.content s
    → AreBytes Nowhere (sources_of r) blob (length (sources_of r)) buffers → (e : Error)
    → NamesFault (HasBufferFault names (sources_of s) blob) e → ⊥
no_buffers law names known r s blob buffers same are e told =
    let named = named_fault (HasBufferFault names (sources_of s) blob) e told in
    law.buffers names s r blob named.0 buffers known (sym same) named.1
    (all_anywhere names (sources_of r) blob (length (sources_of r)) buffers are)

-- ---- imports

pub not_refused : Law → (required : Required) (names : Names) → AreKnown names
    → (bytes : List ℕ) (r : Root) (buffers : List (List ℕ))
    → AcceptsAs required Nowhere bytes r buffers → (e : Error)
    → RefusesImportAs required names bytes e → ⊥
not_refused law required names known bytes r buffers is e (inl (inl (inl told))) =
    let document = is.valid.document in
    no_container bytes document.text is.blob e document.parts told
not_refused law required names known bytes r buffers is e (inl (inl (inr told))) =
    no_text law.one required bytes r is.blob is.valid.document e told
not_refused law required names known bytes r buffers is e (inl (inr told)) =
    let same = one_document law.one required bytes r told.root is.blob told.blob is.valid.document
    told.document in
    no_rules law required r told.root is.valid.left same.0 is.valid.is_left is.valid.rules e
    told.fails
not_refused law required names known bytes r buffers is e (inr told) =
    let same = one_document law.one required bytes r told.root is.blob told.blob is.valid.document
    told.valid.document in
    no_buffers law names known r told.root is.blob buffers same.0 is.data_ e
    (subst (λ (b : Option (List ℕ)).
    NamesFault (HasBufferFault names (sources_of told.root) b) e) same.1 told.fails)

-- ---- files

same_bytes : {x y : List ℕ} → ◌≡◌ {A = Option (List ℕ)} (Some x) (Some y) → x ≡ y
same_bytes same = cc

no_longer : (x : Named) (xs : List Named) → xs ≡ x ∷ xs → ⊥
no_longer x xs same =
    let long = ap (λ (ys : List Named). length ys) same in
    omega arith

module _ (law : Law) (required : Required) (from : Named → Option (List ℕ)) (other answer : List ℕ)
    (held : from (File other) ≡ Some answer) (accepted : IsAcceptedAs required answer)
    (failures : List Named) where
  answered : (e : Error) → e ≢ error.Memory
      → IsUnanswered (Held from) (File other) failures failures e → ⊥
  answered (error.Io cause) not_memory told = no_longer (File other) failures told.1
  answered error.ExternalReferenceInSliceImport not_memory told = let never = told.0 in cc
  answered error.Memory not_memory told = not_memory refl
  answered e not_memory told = told

  taken : (e : Error) → e ≢ error.Memory
      → FailsOrRefusesAs required (Held from) answer failures failures e → ⊥
  taken (error.Io cause) not_memory told = no_longer told.0 failures told.2
  taken error.Memory not_memory told = not_memory refl
  taken e not_memory told =
      not_refused law required (Held from) tt answer accepted.0 accepted.1 accepted.2 e told.1

  -- where the source does not fail
  pub file_is_taken : (e : Error) → e ≢ error.Memory
      → RefusesFileAs required (Held from) other failures failures e → ⊥
  file_is_taken e not_memory (inl told) = answered e not_memory told
  file_is_taken e not_memory (inr told) =
      taken e not_memory
      (subst (λ (bytes : List ℕ). FailsOrRefusesAs required (Held from) bytes failures failures e)
      (same_bytes (sym told.gives ∙ held)) told.told)
