-- From the bytes that came out of a reader to the answers of `Gltf::from_reader`, with and without
-- validation, and of `Gltf::open`. Either the reading stopped (`stopped_file`), or all bytes came
-- and a layer refuses them (`refused_file`); both go by cases on the error. In the second, a fault
-- of the container is one whatever comes after, by the law `whole_bytes_decide`, and no other layer
-- answers `Io` or `Binary` (`IsOfLayers`). `given_behind_none` makes the answer; `answer_unknown`
-- is for `open`, where it is not known what the reader has left.
use Rattle.std.proofs.Common.{◌≡◌, ◌≢◌, ◌≤◌, ℕ, List, [], length, Option, Result, Ok, Err, true}
use Rattle.std.proofs.Common.{subst, inl, inr, ◌⊎◌, Bool, false, None}
use Rattle.std.specs.Io.KnownBytes.{IsAtEnd}
use Rattle.std.specs.Prelude.{MatchBool, MatchResult, nat_eq, ⊤}
use Rattle.std.specs.List.{starts_with}
use Rattle.gltf_stream.specs.Streams.{ReadsBehind}
use Rattle.gltf_glb.specs.Bytes.{magic}
use Rattle.gltf_glb.specs.Container.{IsContainer}
use Rattle.gltf_glb.specs.Front.{IsWhole}
use Rattle.gltf_glb.specs.Laws.{WholeBytesDecide}
use Rattle.gltf_glb.specs.Reader.{needed_length, NamesReaderFault}
use Rattle.gltf_glb.specs.Reading.{IsReadingOf}
use Rattle.gltf_glb.specs.ReadingLaws.{decided_here, names_whole}
use Rattle.gltf_glb.specs.Steps.{fault_of}
use Rattle.gltf_glb.specs.declared.binary.Error as container
use Rattle.gltf_glb.specs.declared.binary.Error.TheVariants as binary
use Rattle.gltf_glb.specs.declared.error.Error.{Error}
use Rattle.gltf_glb.specs.declared.error.Error.TheVariants as error
use Rattle.gltf.specs.Errors.{OutOfMemoryOr}
use Rattle.gltf.specs.Import.{RefusesContainer, RefusesText, RefusesDocument}
use Rattle.gltf.specs.Import.{IsNoDocument}
use Rattle.gltf.specs.Reader.{Gives, IsAllThatCounts, StopsReading, StopsReadingOr, UnlessFailure}
use Rattle.gltf.specs.Reader.{RefusesTextOrRules, IsValidFile, RefusesValidFile}
use Rattle.gltf.specs.Shown.{blob_bytes}
use Rattle.gltf.specs.declared.file.Gltf.{Gltf}
use Rattle.gltf.proofs.Parts.{container_parts}

-- what a reader gave after no bytes is what came, and decides the answer
pub given_behind_none : {before after : Option (List ℕ)} {old : List ℕ} {Answer : List ℕ → Type 0}
    (came : List ℕ) → old ≡ [] → ReadsBehind before after old came
    → (starts_with nat_eq came magic ≡ true → length came ≤ needed_length came) → Answer came
    → Gives before after Answer
given_behind_none came empty (read, lost, is) within answer =
    record { came = came; reads = rw (is, empty) lost; within = within; answer = answer }

-- ---- the fault of a container

-- bytes with a fault are no container
no_container_named : (came : List ℕ) (cause : container.Error) (text : List ℕ)
    (blob : Option (List ℕ)) → NamesReaderFault came cause → IsContainer came text blob → ⊥
no_container_named came (binary.Io cause) text blob named container =
    let apart = named.only (Ok (text, blob)) container in cc
no_container_named came cause text blob named container =
    let here = decided_here came (Err (fault_of cause)) named in
    let apart = here.only (Ok (text, blob)) container in cc

no_document_named : (came : List ℕ) (cause : container.Error)
    → starts_with nat_eq came magic ≡ true → NamesReaderFault came cause → IsNoDocument came
no_document_named came cause begins named s blob document =
    no_container_named came cause document.text blob named
    (container_parts came document.text blob begins document.parts)

whole_container : (left : Option (List ℕ)) (came : List ℕ) → starts_with nat_eq came magic ≡ true
    → IsAllThatCounts left came → IsWhole came
whole_container left came begins all =
    subst (λ t. MatchBool t (IsWhole came) (IsAtEnd left)) begins all.1

-- ---- the answers

-- the reading stopped
pub stopped_file : (P : List ℕ → Error → Type 0) (N : List ℕ → Type 0) (left : Option (List ℕ))
    (came : List ℕ) (e : Error) → (IsNoDocument came → N came) → StopsReading came e
    → StopsReadingOr P left came e × UnlessFailure N came e
stopped_file P N left came error.Memory lift stops = (tt, tt)
stopped_file P N left came (error.Io cause) lift stops = (stops, tt)
stopped_file P N left came (error.Binary cause) lift stops =
    (stops, lift (no_document_named came cause stops.0 stops.1))
stopped_file P N left came _ lift stops = absurd stops

container_told : (left : Option (List ℕ)) (came : List ℕ) (cause : container.Error)
    → WholeBytesDecide → IsAllThatCounts left came → RefusesContainer came (error.Binary cause)
    → StopsReading came (error.Binary cause)
container_told left came cause decide all refused =
    let same : refused.cause ≡ cause = (let is = refused.names in cc) in
    let reading : IsReadingOf came (Err (fault_of cause)) =
    subst (λ c. IsReadingOf came (Err (fault_of c))) same refused.fault in (
      refused.begins,
      names_whole came cause
          (decide came (Err (fault_of cause))
          (whole_container left came refused.begins all) reading),
    )

-- the error is none of a reading: neither that the reader failed, nor the fault of a container
abbrev pub IsOfLayers : Error → Type 0
IsOfLayers (error.Io cause) = ⊥
IsOfLayers (error.Binary cause) = ⊥
IsOfLayers _ = ⊤

-- a layer does not hold, and all bytes that count came
pub refused_file : (P : List ℕ → Error → Type 0) (N : List ℕ → Type 0) (left : Option (List ℕ))
    (came : List ℕ) (e : Error) → WholeBytesDecide → IsAllThatCounts left came
    → ((y : Error) → P came y → IsOfLayers y)
    → OutOfMemoryOr (λ y. RefusesContainer came y ⊎ P came y) e → (e ≢ error.Memory → N came)
    → StopsReadingOr P left came e × UnlessFailure N came e
refused_file P N left came error.Memory decide all of_layers told exact = (tt, tt)
refused_file P N left came (error.Io cause) decide all of_layers (inl c) exact =
    let is = c.names in cc
refused_file P N left came (error.Io cause) decide all of_layers (inr p) exact =
    absurd (of_layers (error.Io cause) p)
refused_file P N left came (error.Binary cause) decide all of_layers (inl c) exact =
    (container_told left came cause decide all c, exact (λ is. cc))
refused_file P N left came (error.Binary cause) decide all of_layers (inr p) exact =
    absurd (of_layers (error.Binary cause) p)
refused_file P N left came _ decide all of_layers (inl c) exact =
    let is = c.names in cc
refused_file P N left came _ decide all of_layers (inr p) exact =
    ((all, p), exact (λ is. cc))

-- a text is refused by no other error than its own
pub text_of_layers : (came : List ℕ) (e : Error) → RefusesText came e → IsOfLayers e
text_of_layers came (error.Io cause) refused = let is = refused.names in cc
text_of_layers came (error.Binary cause) refused = let is = refused.names in cc
text_of_layers came e refused = tt

pub rules_of_layers : (came : List ℕ) (e : Error) → RefusesTextOrRules came e → IsOfLayers e
rules_of_layers came e (inl text) = text_of_layers came e text
rules_of_layers came (error.Io cause) (inr rules) = rules.fails
rules_of_layers came (error.Binary cause) (inr rules) = rules.fails
rules_of_layers came e (inr rules) = tt

apart : (came : List ℕ) (e : Error) → RefusesDocument came e
    → RefusesContainer came e ⊎ RefusesTextOrRules came e
apart came e (inl (inl container)) = inl container
apart came e (inl (inr text)) = inr (inl text)
apart came e (inr rules) = inr (inr rules)

-- the container; or the text or the rules
pub told_apart : (came : List ℕ) (e : Error) → OutOfMemoryOr (RefusesDocument came) e
    → OutOfMemoryOr (λ y. RefusesContainer came y ⊎ RefusesTextOrRules came y) e
told_apart came error.Memory told = tt
told_apart came e told = apart came e told

-- ---- a reader whose bytes are not known

all_of_some : (b : Bool) (W E : Type 0) → MatchBool b W E → MatchBool b W ⊤
all_of_some true W E all = all
all_of_some false W E all = tt

all_unknown : (left : Option (List ℕ)) (came : List ℕ) → IsAllThatCounts left came
    → IsAllThatCounts None came
all_unknown left came all = (
  all.0,
  all_of_some (starts_with nat_eq came magic) (IsWhole came) (IsAtEnd left) all.1,
)

told_unknown : (P : List ℕ → Error → Type 0) (left : Option (List ℕ)) (came : List ℕ) (e : Error)
    → StopsReadingOr P left came e → StopsReadingOr P None came e
told_unknown P left came error.Memory told = tt
told_unknown P left came (error.Io cause) told = told
told_unknown P left came (error.Binary cause) told = told
told_unknown P left came _ told = (all_unknown left came told.0, told.1)

pub answer_unknown : (left : Option (List ℕ)) (came : List ℕ) (r : Result Gltf Error)
    → MatchResult r (λ file. IsValidFile left came file.document (blob_bytes file.blob))
    (RefusesValidFile left came)
    → MatchResult r (λ file. IsValidFile None came file.document (blob_bytes file.blob))
    (RefusesValidFile None came)
answer_unknown left came (Ok file) is =
    record { all = all_unknown left came is.all; valid = is.valid; only = is.only }
answer_unknown left came (Err e) is =
    record { told = told_unknown RefusesTextOrRules left came e is.told; exact = is.exact }
