-- The report of a file that is refused has an error, or is of a member that this reader alone needs:
-- every other code of a refusal is an error, and where rules are broken, one is found by a law of
-- `gltf_inspect` (`Law`).
use Rattle.std.proofs.Common.{◌≡◌, ◌≢◌, ℕ, Bool, true, false, List, [], ◌∷◌, ◌++◌, inl, inr, refl}
use Rattle.std.proofs.Common.{arith, suc, Result, Ok, Err, if◌then◌else◌, ◌==◌, ap, ◌∙◌}
use Rattle.std.specs.Prelude.{Option, Some, None, ◌↔◌, nat_lt, nat_eq, length, drop, codes}
use Rattle.std.specs.List.{starts_with}
use Rattle.std.proofs.lemmas.Bool.{true≢false}
use Rattle.gltf_json.specs.declared.root.Root.{Root}
use Rattle.gltf_json_record.specs.Place.{Place, named, numbered, keyed}
use Rattle.gltf_json_record.specs.declared.error.Error as json
use Rattle.gltf_json_record.specs.declared.error.Error.TheVariants as text
use Rattle.gltf_json_record.specs.declared.error.RecordFault.{RecordFault}
use Rattle.gltf_json_record.specs.declared.error.RecordFault.TheVariants.{MissingMember, WrongKind}
use Rattle.gltf_glb.specs.declared.binary.Error as container
use Rattle.gltf_glb.specs.declared.binary.Error.TheVariants as binary
use Rattle.gltf_glb.specs.declared.binary.ChunkType.TheVariants.{Json, Bin}
use Rattle.gltf_glb.specs.declared.error.Error.{Error}
use Rattle.gltf_glb.specs.declared.error.Error.TheVariants as error
use Rattle.gltf_buffers.specs.Names.{Names}
use Rattle.gltf_validation.specs.Documents.{Faults, counts_of, root_rules}
use Rattle.gltf_validation.specs.Rules.{Hold}
use Rattle.gltf.specs.Errors.{OutOfMemoryOr}
use Rattle.gltf.specs.Import.{RefusesRecords}
use Rattle.gltf_findings.specs.Codes.{severity, severity_number, may_refuse}
use Rattle.gltf_findings.specs.Reports.{count_of, refusal_count}
use Rattle.gltf_findings.specs.declared.code.Code.{Code}
use Rattle.gltf_findings.specs.declared.code.Code.TheVariants as code
use Rattle.gltf_findings.specs.declared.code.Severity.TheVariants as grave
use Rattle.gltf_inspect.specs.Refusals.{last_of}
use Rattle.gltf_inspect_files.specs.Buffers.{buffer_code, buffer_place, buffers_findings}
use Rattle.gltf_inspect_files.specs.Buffers.{is_memory}
use Rattle.gltf_inspect_files.specs.Containers.{container_code}
use Rattle.gltf_inspect_files.specs.Reports.{Found, error_findings, records_findings}
use Rattle.gltf_inspect_files.specs.Reports.{IsOfBrokenRules}
use Rattle.gltf_inspect_files.specs.Reports.{IsOfRefused, IsOfNeededMember}
use Rattle.gltf_inspect_files.specs.Texts.{record_code, text_findings, is_needed_here}

-- ---- the codes

if_grave : (b : Bool) (x y : Code) → severity x ≡ grave.Error → severity y ≡ grave.Error
    → severity (if b then x else y) ≡ grave.Error
if_grave true x y p q = p
if_grave false x y p q = q

container_grave : (bytes : List ℕ) (e : container.Error)
    → severity (container_code bytes e) ≡ grave.Error
container_grave bytes (binary.Io cause) =
    if_grave (nat_lt (length bytes) 12) code.GlbUnexpectedEndOfHeader
    code.GlbUnexpectedEndOfChunkHeader refl refl
container_grave bytes (binary.Version version) = refl
container_grave bytes (binary.Magic first) = refl
container_grave bytes (binary.Length declared read) =
    if_grave (nat_lt declared 12) code.GlbLengthTooSmall code.GlbLengthMismatch refl refl
container_grave bytes (binary.ChunkLength type declared read) = refl
container_grave bytes (binary.ChunkType Json) = refl
container_grave bytes (binary.ChunkType Bin) = refl
container_grave bytes (binary.UnknownChunkType type) =
    if_grave (starts_with nat_eq (drop 16 bytes) (codes "JSON")) code.GlbChunkTooBig
    code.GlbUnexpectedFirstChunk refl refl

kind_grave : (step : Place) → severity (record_code step WrongKind) ≡ grave.Error
kind_grave (named name) = refl
kind_grave (numbered i) = refl
kind_grave (keyed name) = refl

buffer_grave : (e : Error) → severity (buffer_code e) ≡ grave.Error
buffer_grave (error.Base64 cause) = refl
buffer_grave (error.Binary cause) = refl
buffer_grave (error.BufferLength buffer expected actual) = refl
buffer_grave (error.Deserialize cause) = refl
buffer_grave (error.Io cause) = refl
buffer_grave error.MissingBlob = refl
buffer_grave error.ExternalReferenceInSliceImport = refl
buffer_grave error.UnsupportedScheme = refl
buffer_grave (error.Validation faults) = refl
buffer_grave error.Memory = refl

-- ---- how many there are

first_counts : (path : List Place) (code : Code) (rest : Found) → severity code ≡ grave.Error
    → count_of grave.Error ((path, code) ∷ rest) ≢ 0
first_counts path code rest is e =
    let some : suc (count_of grave.Error rest) ≡ 0 = rw is at e in omega (arith, some)

-- ---- a member that this reader alone needs

abbrev IsOfNeeded : json.Error → Type 0
IsOfNeeded cause =
    (path : List Place) × (cause ≡ text.Record path MissingMember)
    × (is_needed_here (last_of (named []) path) ≡ true)
    × (text_findings cause ≡ (path, code.NeededByReader) ∷ [])

absent_found : (path : List Place) (b : Bool)
    → is_needed_here (last_of (named []) path) ≡ b
    → count_of grave.Error (text_findings (text.Record path MissingMember)) ≡ 0
    → IsOfNeeded (text.Record path MissingMember)
absent_found path true need none =
    (path, refl, need, rw need refl)
absent_found path false need none =
    absurd (first_counts path code.UndefinedProperty [] refl (rw need at none))

-- where no error is found in a text, it is that
text_needed : (cause : json.Error) → cause ≢ text.Memory
    → count_of grave.Error (text_findings cause) ≡ 0 → IsOfNeeded cause
text_needed (text.Text refused) fine none =
    absurd (first_counts [] code.InvalidJson [] refl none)
text_needed (text.Record path MissingMember) fine none =
    absent_found path (is_needed_here (last_of (named []) path)) refl none
text_needed (text.Record path WrongKind) fine none =
    absurd (first_counts path (record_code (last_of (named []) path) WrongKind) []
    (kind_grave (last_of (named []) path)) none)
text_needed text.Memory fine none = absurd (fine refl)

error_needed : (bytes : List ℕ) (e : Error) (found : Found) → found ≡ error_findings bytes e
    → RefusesRecords bytes e → count_of grave.Error found ≡ 0 → IsOfNeededMember (Some e) found
error_needed bytes e found same (inl told) none =
    absurd (first_counts [] (container_code bytes told.cause) [] (container_grave bytes told.cause)
    (rw (same, told.names) at none))
error_needed bytes e found same (inr told) none =
    let need = text_needed told.cause told.not_memory (rw (same, told.names) at none) in
    record {
      path = need.0;
      absent = ap (λ (x : Error). Some x) told.names
          ∙ ap (λ (x : json.Error). Some (error.Deserialize x)) need.1;
      needed = need.2;
      same = same ∙ ap (error_findings bytes) told.names ∙ need.3;
    }

-- where no error is found, no buffer has a fault
buffers_count : (i : ℕ) (answers : List (Result (List ℕ) Error)) (rest : Found)
    → count_of grave.Error (buffers_findings i answers ++ rest) ≡ 0
    → buffers_findings i answers ≡ []
buffers_count i [] rest e = refl
buffers_count i (Ok bytes ∷ answers) rest e = buffers_count (suc i) answers rest e
buffers_count i (Err cause ∷ answers) rest e =
    absurd (first_counts (buffer_place i cause) (buffer_code cause)
    (buffers_findings (suc i) answers ++ rest) (buffer_grave cause) e)

-- ---- the whole

-- the premises: where no error is found all rules hold, and then none is broken
pub record Law : Type 0 where
  pub hold : (r : Root) → count_of grave.Error (records_findings r) ≡ 0
      → Hold (root_rules (counts_of r) r)
  pub broken : (r : Root) → (Faults r ≡ []) ↔ Hold (root_rules (counts_of r) r)

rules_count : Law → (bytes : List ℕ) (found : Found) → IsOfBrokenRules bytes found
    → count_of grave.Error found ≢ 0
rules_count law bytes found is e =
    is.broken ((law.broken is.root).1 (law.hold is.root (rw is.same at e)))

-- a file that holds a document
pub has_an_error : Law → (names : Names) (bytes : List ℕ) (found : Found)
    → IsOfRefused names bytes None found → count_of grave.Error found ≢ 0
has_an_error law names bytes found (inl is) = rules_count law bytes found is
has_an_error law names bytes found (inr is) = λ e.
    is.some (buffers_count 0 is.answers (records_findings is.root) (rw is.same at e))

pub is_needed : Law → (names : Names) (bytes : List ℕ) (cause : Option Error) (found : Found)
    → IsOfRefused names bytes cause found → count_of grave.Error found ≡ 0
    → IsOfNeededMember cause found
is_needed law names bytes (Some cause) found is none =
    error_needed bytes cause found is.same is.refused none
is_needed law names bytes None found is none =
    absurd (has_an_error law names bytes found is none)

-- what is no refusal is no error
no_error_is : (c : Code) → may_refuse c ≡ false → (severity_number (severity c) == 0) ≡ false
no_error_is code.NeededByReader e = refl
no_error_is c e = e

fewer : (a b : Bool) (m n : ℕ) → (a ≡ false → b ≡ false) → (m ≡ 0 → n ≡ 0)
    → (if a then suc m else m) ≡ 0 → (if b then suc n else n) ≡ 0
fewer true b m n less rest none = let never : ⊥ = omega (arith, none) in absurd never
fewer false b m n less rest none = rw (less refl) (rest none)

no_errors : (found : Found) → refusal_count found ≡ 0 → count_of grave.Error found ≡ 0
no_errors [] none = refl
no_errors (f ∷ found) none =
    fewer (may_refuse f.1) (severity_number (severity f.1) == 0) (refusal_count found)
    (count_of grave.Error found) (no_error_is f.1) (no_errors found) none

pub is_reported : Law → (names : Names) (bytes : List ℕ) (cause : Option Error) (found : Found)
    → IsOfRefused names bytes cause found → refusal_count found ≢ 0
is_reported law names bytes cause found is = λ none.
    let need = is_needed law names bytes cause found is (no_errors found none) in
    let one : ◌≡◌ {A = ℕ} 1 0 = rw need.same at none in
    omega (arith, one)

-- ---- out of memory is no cause

pub not_memory : (e : Error) → is_memory e ≡ false → e ≢ error.Memory
not_memory e h m = true≢false (rw m at h)

pub other_cause : (P : Error → Type 0) (e : Error) → is_memory e ≡ false → OutOfMemoryOr P e → P e
other_cause P error.Memory h told = absurd (true≢false h)
other_cause P e h told = told
