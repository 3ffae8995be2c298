-- From the bytes that came out of a reader to the answers of `from_reader_with`, by cases on the
-- error. Either the reading stopped (`stopped`), or all bytes came and a layer refuses them
-- (`refused`): a fault of the container is one whatever comes after, by the law
-- `whole_bytes_decide`, and no other layer answers `Io` or `Binary`.
use Rattle.std.proofs.Common.{◌≡◌, ◌≢◌, ◌≤◌, ℕ, List, [], length, Option, None, Result, Ok, Err, true}
use Rattle.std.proofs.Common.{subst, inl, inr, ◌⊎◌}
use Rattle.std.specs.Io.KnownBytes.{IsAtEnd}
use Rattle.std.specs.Prelude.{MatchBool, MatchResult, IfOk, IfErr, nat_eq, ⊤}
use Rattle.std.specs.List.{starts_with}
use Rattle.gltf_stream.specs.Streams.{ReadsBehind}
use Rattle.gltf_glb.specs.Bytes.{magic}
use Rattle.gltf_glb.specs.Container.{IsContainer}
use Rattle.gltf_glb.specs.Front.{IsWhole}
use Rattle.gltf_glb.specs.Laws.{WholeBytesDecide}
use Rattle.gltf_glb.specs.Reader.{needed_length, NamesReaderFault}
use Rattle.gltf_glb.specs.Reading.{IsReadingOf}
use Rattle.gltf_glb.specs.ReadingLaws.{decided_here, names_whole}
use Rattle.gltf_glb.specs.Steps.{fault_of}
use Rattle.gltf_glb.specs.declared.binary.Error as container
use Rattle.gltf_glb.specs.declared.binary.Error.TheVariants as binary
use Rattle.gltf_glb.specs.declared.error.Error.{Error}
use Rattle.gltf_glb.specs.declared.error.Error.TheVariants as error
use Rattle.gltf.specs.Errors.{OutOfMemoryOr}
use Rattle.gltf.specs.Import.{AreParts, RefusesContainer}
use Rattle.gltf.specs.Reader.{Gives, IsAllThatCounts, StopsReading}
use Rattle.gltf.specs.Shown.{blob_bytes}
use Rattle.gltf_options.specs.Names.{texts}
use Rattle.gltf_options.specs.declared.file.Opened.{Opened}
use Rattle.gltf_lenient.specs.Import.{IsValidMended, IsOnlyMended, IsNoValidMended, RefusesMended}
use Rattle.gltf_lenient.specs.Reader.{IsFileMended, RefusesMendedTextOrRules, RefusesFileMended}
use Rattle.gltf_lenient.specs.declared.options.Options.{Options}

-- what a reader gave after no bytes is what came, and decides the answer
pub given_behind_none : {before after : Option (List ℕ)} {old : List ℕ} {Answer : List ℕ → Type 0}
    (came : List ℕ) → old ≡ [] → ReadsBehind before after old came
    → (starts_with nat_eq came magic ≡ true → length came ≤ needed_length came) → Answer came
    → Gives before after Answer
given_behind_none came empty (read, lost, is) within answer =
    record { came = came; reads = rw (is, empty) lost; within = within; answer = answer }

-- ---- the reading stopped

-- bytes that begin with `glTF` are those of a container
container_parts : (bytes text : List ℕ) (blob : Option (List ℕ))
    → starts_with nat_eq bytes magic ≡ true → AreParts bytes text blob → IsContainer bytes text blob
unfolding AreParts
container_parts bytes text blob begins parts =
    subst (λ t. MatchBool t (IsContainer bytes text blob) ((text ≡ bytes) × (blob ≡ None)))
    begins parts

-- bytes with a fault are no container
no_container_named : (came : List ℕ) (cause : container.Error) (text : List ℕ)
    (blob : Option (List ℕ)) → NamesReaderFault came cause → IsContainer came text blob → ⊥
no_container_named came (binary.Io cause) text blob named container =
    let apart = named.only (Ok (text, blob)) container in cc
no_container_named came cause text blob named container =
    let here = decided_here came (Err (fault_of cause)) named in
    let apart = here.only (Ok (text, blob)) container in cc

no_valid_named : (options : Options) (came : List ℕ) (cause : container.Error)
    → starts_with nat_eq came magic ≡ true → NamesReaderFault came cause
    → IsNoValidMended options came
no_valid_named options came cause begins named s taken blob valid =
    let document = valid.document.document in
    no_container_named came cause document.text blob named
    (container_parts came document.text blob begins document.parts)

pub stopped : (options : Options) (left : Option (List ℕ)) (came : List ℕ) (e : Error)
    → StopsReading came e → RefusesFileMended options left came e
stopped options left came error.Memory stops = record { fails = tt; exact = tt }
stopped options left came (error.Io cause) stops = record { fails = stops; exact = tt }
stopped options left came (error.Binary cause) stops = record {
  fails = stops;
  exact = no_valid_named options came cause stops.0 stops.1;
}
stopped options left came _ stops = absurd stops

-- ---- all bytes came

whole_container : (left : Option (List ℕ)) (came : List ℕ) → starts_with nat_eq came magic ≡ true
    → IsAllThatCounts left came → IsWhole came
whole_container left came begins all =
    subst (λ t. MatchBool t (IsWhole came) (IsAtEnd left)) begins all.1

container_stops : (left : Option (List ℕ)) (came : List ℕ) (cause : container.Error)
    → WholeBytesDecide → IsAllThatCounts left came → RefusesContainer came (error.Binary cause)
    → StopsReading came (error.Binary cause)
container_stops left came cause decide all refused =
    let same : refused.cause ≡ cause = (let is = refused.names in cc) in
    let reading : IsReadingOf came (Err (fault_of cause)) =
    subst (λ c. IsReadingOf came (Err (fault_of c))) same refused.fault in (
      refused.begins,
      names_whole came cause
          (decide came (Err (fault_of cause))
          (whole_container left came refused.begins all) reading),
    )

-- the error is none of a reading: neither that the reader failed, nor the fault of a container
abbrev IsOfLayers : Error → Type 0
IsOfLayers (error.Io cause) = ⊥
IsOfLayers (error.Binary cause) = ⊥
IsOfLayers _ = ⊤

of_layers : (options : Options) (came : List ℕ) (e : Error)
    → RefusesMendedTextOrRules options came e → IsOfLayers e
of_layers options came (error.Io cause) (inl text) = let is = text.names in cc
of_layers options came (error.Io cause) (inr rules) = rules.fails
of_layers options came (error.Binary cause) (inl text) = let is = text.names in cc
of_layers options came (error.Binary cause) (inr rules) = rules.fails
of_layers options came _ told = tt

refused : (options : Options) (left : Option (List ℕ)) (came : List ℕ) (e : Error)
    → WholeBytesDecide → IsAllThatCounts left came
    → RefusesContainer came e ⊎ RefusesMendedTextOrRules options came e
    → (e ≢ error.Memory → IsNoValidMended options came) → RefusesFileMended options left came e
refused options left came error.Memory decide all told exact = record { fails = tt; exact = tt }
refused options left came (error.Io cause) decide all (inl c) exact = let is = c.names in cc
refused options left came (error.Io cause) decide all (inr p) exact =
    absurd (of_layers options came (error.Io cause) p)
refused options left came (error.Binary cause) decide all (inl c) exact = record {
  fails = container_stops left came cause decide all c;
  exact = exact (λ is. cc);
}
refused options left came (error.Binary cause) decide all (inr p) exact =
    absurd (of_layers options came (error.Binary cause) p)
refused options left came _ decide all (inl c) exact = let is = c.names in cc
refused options left came _ decide all (inr p) exact =
    record { fails = (all, p); exact = exact (λ is. cc) }

apart : (options : Options) (came : List ℕ) (e : Error) → RefusesMended options came e
    → RefusesContainer came e ⊎ RefusesMendedTextOrRules options came e
apart options came e (inl (inl container)) = inl container
apart options came e (inl (inr text)) = inr (inl text)
apart options came e (inr rules) = inr (inr rules)

refused_file : (options : Options) (left : Option (List ℕ)) (came : List ℕ) (e : Error)
    → WholeBytesDecide → IsAllThatCounts left came → OutOfMemoryOr (RefusesMended options came) e
    → (e ≢ error.Memory → IsNoValidMended options came) → RefusesFileMended options left came e
refused_file options left came error.Memory decide all told exact =
    record { fails = tt; exact = tt }
refused_file options left came e decide all told exact =
    refused options left came e decide all (apart options came e told) exact

pub read_whole : (options : Options) (left : Option (List ℕ)) (came : List ℕ)
    (result : Result Opened Error) → WholeBytesDecide → IsAllThatCounts left came
    → IfOk result (λ file. IsValidMended options came file.gltf.document
    (texts file.also_required.items) (blob_bytes file.gltf.blob))
    → IfOk result (λ file. IsOnlyMended options came file.gltf.document
    (texts file.also_required.items) (blob_bytes file.gltf.blob))
    → IfErr result (OutOfMemoryOr (RefusesMended options came))
    → IfErr result (λ e. e ≢ error.Memory → IsNoValidMended options came)
    → MatchResult result (λ file. IsFileMended options left came file.gltf.document
    (texts file.also_required.items) (blob_bytes file.gltf.blob))
    (RefusesFileMended options left came)
read_whole options left came (Ok file) decide all valid only told exact =
    record { all = all; valid = valid; only = only }
read_whole options left came (Err e) decide all valid only told exact =
    refused_file options left came e decide all told exact
