-- Why a file was not bundled: for the clauses `refused` of `load`, `gather`, `places_of` and
-- `bundle`.
use Rattle.std.proofs.Common.{◌≡◌, ℕ, zero, suc, ◌+◌, ◌-◌, ◌%◌, ◌≤◌, ◌<◌, List, []}
use Rattle.std.proofs.Common.{◌∷◌, ◌++◌, refl}
use Rattle.std.proofs.Common.{length, take, get_or, Option, subst, sym, ap, ◌∙◌, arith}
use Rattle.std.proofs.Common.{inl, inr, length-append, codes, false}
use Rattle.std.specs.declared.io.Error.{Error as IoError}
use Rattle.serde_json.specs.Data.{Data, depth}
use Rattle.gltf_glb.specs.declared.error.Error.{Error}
use Rattle.gltf_glb.specs.declared.error.Error.TheVariants as error
use Rattle.gltf_json.specs.declared.root.Root.{Root}
use Rattle.gltf_names.specs.Named.{Named, File}
use Rattle.gltf_buffers.specs.declared.data.Data.{Data as Buffer}
use Rattle.gltf_buffers.specs.Buffers.{Source, sources_of, HasBufferFault, IsAskedFor}
use Rattle.gltf_buffers.specs.Errors.{FailsOrNames, IsUnanswered}
use Rattle.gltf_buffers.specs.Names.{Names, Nowhere, Gives}
use Rattle.gltf.specs.Errors.{OutOfMemoryOr}
use Rattle.gltf_required.specs.Files.{FailsOrRefusesAs, RefusesFileAs}
use Rattle.gltf_required.specs.Import.{IsOpenedAs, IsValidAs, RefusesDocumentAs, RefusesImportAs}
use Rattle.gltf_required.specs.Left.{same_sources}
use Rattle.gltf_required.specs.Required.{TellsAs}
use Rattle.gltf_required.specs.declared.required.Required.{Required}
use Rattle.gltf_required.specs.declared.required.Required.TheVariants.{Supported, Also, All}
use Rattle.gltf_required.specs.declared.required.Required.TheVariants.{Mended, AllMended}
use Rattle.gltf.specs.Shown.{bytes_of_each}
use Rattle.gltf_edit.specs.Bundled.{bundled, ArePlaced}
use Rattle.gltf_edit.specs.Embedded.{embedded, items_at}
use Rattle.gltf_edit.specs.Faults.{NamesStray, IsTooLong}
use Rattle.gltf_edit.specs.Joined.{filled, joined, spans_from}
use Rattle.gltf_edit.specs.JoinedLaws.{joined_last, length_filled}
use Rattle.gltf_edit.specs.declared.fault.Fault.{Fault}
use Rattle.gltf_edit.specs.declared.fault.Fault.TheVariants as fault
use Rattle.gltf_edit.specs.declared.picture.Picture.{Picture}
use Rattle.gltf_moved.specs.Laws.{moved_value}
use Rattle.gltf_bundle.specs.Bundle.{IsSource, IsGathered, ArePlaces, IsBundle, blob_of}
use Rattle.gltf_bundle.specs.Bundle.{Bundles, IsCompact}
use Rattle.gltf_bundle.specs.Causes.{of_fault, of_answer, is_memory}
use Rattle.gltf_glb.specs.Glb.{RefusesToWrite}
use Rattle.gltf_json.specs.Reading.{Reads}
use Rattle.serde_json.specs.Read.{max_depth}
use Rattle.gltf_bundle.specs.Images.{RefusesImages, FailedAtMissing}
use Rattle.gltf_bundle.specs.Refusals.{RefusesSource, RefusesFile, RefusesBundle}
use Rattle.gltf_bundle.specs.Refusals.{HasFailedAtMissing}
use Rattle.gltf_bundle.specs.Refusals.{RefusesContainerOf, HasNoContainer, LacksMemoryOr}
use Rattle.gltf_bundle.specs.declared.joining.Places.{Places}
use Rattle.gltf_bundle.specs.declared.error.BundleError.{BundleError}
use Rattle.gltf_bundle.specs.declared.error.BundleError.TheVariants as bundle
use Rattle.gltf_bundle.proofs.Joins.{each_more}
use Rattle.gltf_bundle.proofs.Sourced.{moved_depth}
use Rattle.gltf_bundle.proofs.Taken.{failed_behind}
use Rattle.gltf_bundle.specs.declared.options.Keep.{Keep}
use Rattle.gltf_bundle.specs.declared.options.Keep.TheVariants.{Nothing, Missing, Every}

-- ---- the import

lacks_or : (M : Type 0) (P : Error → Type 0) (e : Error) → (e ≡ error.Memory → M) → P e
    → LacksMemoryOr M P e
lacks_or M P error.Memory same p = same refl
lacks_or M P e same p = p

weaker : (M N : Type 0) (P : Error → Type 0) (e : Error) → (M → N) → LacksMemoryOr M P e
    → LacksMemoryOr N P e
weaker M N P error.Memory f told = f told
weaker M N P e f told = told

no_rules : (required : Required) (r : Root) (cause : IoError) → TellsAs required r (error.Io cause)
    → ⊥
no_rules Supported r cause told = told
no_rules (Also options) r cause told = told
no_rules All r cause told = told.2
no_rules (Mended options) r cause told = told
no_rules (AllMended mends) r cause told = told.2

no_io : (required : Required) (bytes : List ℕ) (cause : IoError)
    → RefusesDocumentAs required bytes (error.Io cause) → ⊥
no_io required bytes cause (inl (inl told)) = let names = told.names in cc
no_io required bytes cause (inl (inr told)) = let names = told.names in cc
no_io required bytes cause (inr told) = no_rules required told.root cause told.fails

module _ (required : Required) (names : Names) (path : List ℕ) where
  behind : (bytes : List ℕ) (old new : List Named) (e : Error) → Gives names (File path) bytes
      → FailsOrRefusesAs required names bytes old new e
      → LacksMemoryOr (new ≡ old) (RefusesFileAs required names path old new) e
  behind bytes old new e gives told =
      lacks_or (new ≡ old) (RefusesFileAs required names path old new) e
      (λ is. subst (λ (e : Error). FailsOrRefusesAs required names bytes old new e) is told)
      (inr (record { bytes = bytes; gives = gives; told = told }))

  pub unanswered : (old new : List Named) (e : Error)
      → IsUnanswered names (File path) old new e
      → RefusesSource required names path old new (bundle.Import e)
  unanswered old new e told =
      lacks_or (new ≡ old) (RefusesFileAs required names path old new) e
      (λ is. subst (λ (e : Error). IsUnanswered names (File path) old new e) is told) (inl told)

  document_told : (bytes : List ℕ) (old new : List Named) (e : Error) → new ≡ old
      → OutOfMemoryOr (RefusesDocumentAs required bytes) e
      → FailsOrRefusesAs required names bytes old new e
  document_told bytes old new error.Memory same told = same
  document_told bytes old new (error.Io cause) same told =
      absurd (no_io required bytes cause told)
  document_told bytes old new e same told = (same, inl told)

  pub document_refused : (bytes : List ℕ) (old new : List Named) (e : Error)
      → Gives names (File path) bytes → new ≡ old
      → OutOfMemoryOr (RefusesDocumentAs required bytes) e
      → RefusesSource required names path old new (bundle.Import e)
  document_refused bytes old new e gives same told =
      behind bytes old new e gives (document_told bytes old new e same told)

  abbrev FailsWith : Root → Option (List ℕ) → List Named → List Named → Error → Type 0
  FailsWith r blob old new e =
      FailsOrNames (HasBufferFault names (sources_of r) blob)
      (IsAskedFor names (sources_of r) blob) old new e

  buffers_told : (bytes : List ℕ) (r : Root) (blob : Option (List ℕ)) (old new : List Named)
      (e : Error) → IsValidAs required bytes r blob → FailsWith r blob old new e
      → FailsOrRefusesAs required names bytes old new e
  buffers_told bytes r blob old new (error.Io cause) valid fails = (
    fails.0,
    record { root = r; blob = blob; valid = valid; asked = fails.1 },
    fails.2,
  )
  buffers_told bytes r blob old new error.Memory valid fails = fails
  buffers_told bytes r blob old new e valid fails =
      (fails.0, inr (record { root = r; blob = blob; valid = valid; fails = fails.1 }))

  pub buffers_refused : (bytes : List ℕ) (left : Root) (blob : Option (List ℕ))
      (old new : List Named) (e : Error) → Gives names (File path) bytes
      → (opened : IsOpenedAs required bytes left blob) → FailsWith left blob old new e
      → RefusesSource required names path old new (bundle.Import e)
  buffers_refused bytes left blob old new e gives opened fails =
      behind bytes old new e gives
      (buffers_told bytes opened.root blob old new e
      record {
        document = opened.document;
        left = left;
        is_left = opened.is_left;
        rules = opened.rules;
      }
      (subst (λ (xs : List Source).
      FailsOrNames (HasBufferFault names xs blob) (IsAskedFor names xs blob) old new e)
      (same_sources required opened.root left opened.is_left) fails))

-- ---- the images

-- the source did not fail
as_before : (required : Required) (names : Names) (path : List ℕ) (keep : Keep)
    (old new : List Named) → new ≡ old → HasFailedAtMissing required names path keep old new
as_before required names path Nothing old new same = same
as_before required names path Missing old new same = inl same
as_before required names path Every old new same = same

-- it failed at names of images of a file that is accepted
at_images : (required : Required) (names : Names) (path : List ℕ) (keep : Keep)
    (old new : List Named) (value : Data) (r : Root) (buffers : List (List ℕ))
    → IsSource required names path value r buffers
    → FailedAtMissing keep names (items_at (codes "images") value) old new
    → HasFailedAtMissing required names path keep old new
at_images required names path Nothing old new value r buffers source failed = failed
at_images required names path Missing old new value r buffers source failed =
    inr (record {
      value = value;
      root_ = r;
      buffers = buffers;
      source = source;
      failed = failed;
    })
at_images required names path Every old new value r buffers source failed = failed

pub load_refused : (required : Required) (names : Names) (path : List ℕ) (keep : Keep)
    (old new : List Named) (e : BundleError) → RefusesSource required names path old new e
    → RefusesFile required names path keep old new e
load_refused required names path keep old new (bundle.Import e) told =
    weaker (new ≡ old) (HasFailedAtMissing required names path keep old new)
    (RefusesFileAs required names path old new) e (as_before required names path keep old new) told
load_refused required names path keep old new (bundle.View i) told = absurd told
load_refused required names path keep old new (bundle.Image i u e) told = absurd told
load_refused required names path keep old new (bundle.ImageType i) told = absurd told
load_refused required names path keep old new bundle.TooLong told = absurd told
load_refused required names path keep old new (bundle.Answer e) told = absurd told

pub images_refused : (required : Required) (names : Names) (path : List ℕ) (keep : Keep)
    (old new : List Named) (value : Data) (r : Root) (buffers : List (List ℕ)) (e : BundleError)
    → IsSource required names path value r buffers
    → RefusesImages keep names (items_at (codes "images") value) old new e
    → RefusesFile required names path keep old new e
images_refused required names path keep old new value r buffers (bundle.Import e) source told =
    subst (λ e.
    LacksMemoryOr (HasFailedAtMissing required names path keep old new)
    (RefusesFileAs required names path old new) e)
    (sym told.0) (at_images required names path keep old new value r buffers source told.1)
images_refused required names path keep old new value r buffers (bundle.View i) source told =
    absurd told
images_refused required names path keep old new value r buffers (bundle.Image i u e) source told =
    record { value = value; root_ = r; buffers = buffers; source = source; told = told }
images_refused required names path keep old new value r buffers (bundle.ImageType i) source told =
    record { value = value; root_ = r; buffers = buffers; source = source; told = told }
images_refused required names path keep old new value r buffers bundle.TooLong source told =
    absurd told
images_refused required names path keep old new value r buffers (bundle.Answer e) source told =
    absurd told

-- ---- the steps after it

pub file_refused : (required : Required) (names : Names) (path : List ℕ) (keep : Keep)
    (old new : List Named) (e : BundleError) → RefusesFile required names path keep old new e
    → RefusesBundle required names path keep old new e
file_refused required names path keep old new (bundle.Import e) told = told
file_refused required names path keep old new (bundle.View i) told = absurd told
file_refused required names path keep old new (bundle.Image i u e) told = told
file_refused required names path keep old new (bundle.ImageType i) told = told
file_refused required names path keep old new bundle.TooLong told = absurd told
file_refused required names path keep old new (bundle.Answer e) told = absurd told

module _ (required : Required) (names : Names) (path : List ℕ) (keep : Keep)
    (old new : List Named) (value : Data) (r : Root) (buffers images : List (List ℕ))
    (ps : List (Option Picture)) (lost : List Named)
    (gathered : IsGathered required names path keep value r buffers images ps lost)
    (after : new ≡ lost ++ old) where
  -- where there is no memory behind the images
  pub fine : HasFailedAtMissing required names path keep old new
  fine =
      at_images required names path keep old new value r buffers gathered.source
      (failed_behind keep names value ps images lost old new gathered.taken after)

  abbrev whole : List (List ℕ)
  whole = buffers ++ images

  pub join_refused : (f : Fault) → IsTooLong (length (joined whole)) f
      → RefusesBundle required names path keep old new (of_fault f)
  join_refused (fault.Outside i) told = absurd told
  join_refused fault.TooLong told =
      record {
        value = value;
        root_ = r;
        buffers = buffers;
        images = images;
        pictures = ps;
        lost = lost;
        gathered = gathered;
        long = told;
      }
  join_refused fault.Memory told = fine

  pub edit_refused : (f : Fault) → NamesStray (spans_from 0 whole) (embedded ps value) f
      → RefusesBundle required names path keep old new (of_fault f)
  edit_refused (fault.Outside i) told =
      record {
        value = value;
        root_ = r;
        buffers = buffers;
        images = images;
        pictures = ps;
        lost = lost;
        gathered = gathered;
        stray = told;
      }
  edit_refused fault.TooLong told = absurd told
  edit_refused fault.Memory told = fine

  container_refused : (e : BundleError) → ArePlaced (spans_from 0 whole) (embedded ps value)
      → RefusesContainerOf (moved_value whole ps value) (blob_of whole) e
      → RefusesBundle required names path keep old new e
  container_refused (bundle.Import e) placed told =
      subst (λ e.
      LacksMemoryOr (HasFailedAtMissing required names path keep old new)
      (RefusesFileAs required names path old new) e)
      (sym told) fine
  container_refused (bundle.View i) placed told = absurd told
  container_refused (bundle.Image i u e) placed told = absurd told
  container_refused (bundle.ImageType i) placed told = absurd told
  container_refused bundle.TooLong placed told = absurd told
  container_refused (bundle.Answer e) placed told =
      record {
        value = value;
        root_ = r;
        buffers = buffers;
        images = images;
        pictures = ps;
        lost = lost;
        gathered = gathered;
        placed = placed;
        json = told.0;
        reads = told.1 (moved_depth whole ps value gathered.source.nests);
        compact = told.2;
        not_memory = told.3;
        fault = inl told.4;
      }

  pub answer_refused : (all : Places) → ArePlaces whole all
      → ArePlaced all.spans.items (embedded ps value) → (after : Data)
      → after ≡ bundled all.spans.items all.total (embedded ps value)
      → (e : BundleError) → RefusesContainerOf after (blob_of whole) e
      → RefusesBundle required names path keep old new e
  answer_refused all is placed after edited e told =
      let same : after ≡ moved_value whole ps value =
      edited ∙ (λ i. bundled (is.spans i) (is.total i) (embedded ps value)) in
      container_refused e
      (subst (λ spans. ArePlaced spans (embedded ps value)) is.spans placed)
      (subst (λ (d : Data). RefusesContainerOf d (blob_of whole) e) same told)

-- the container was made, and the import refuses it
no_container : (required : Required) (names : Names) (path : List ℕ) (keep : Keep)
    (answer : List ℕ) (e : Error) → IsBundle required names path keep answer
    → is_memory e ≡ false → RefusesImportAs required Nowhere answer e
    → HasNoContainer required names path keep e
no_container required names path keep answer e is not_memory told = record {
  value = is.value;
  root_ = is.root_;
  buffers = is.buffers;
  images = is.images;
  pictures = is.pictures;
  lost = is.lost;
  gathered = is.gathered;
  placed = is.placed;
  json = is.json;
  reads = is.reads;
  compact = is.compact;
  not_memory = not_memory;
  fault =
      inr (subst (λ (bytes : List ℕ). RefusesImportAs required Nowhere bytes e) is.written told);
}

pub import_refused : (required : Required) (names : Names) (path : List ℕ) (keep : Keep)
    (old new : List Named) (answer : List ℕ) (e : Error)
    → Bundles required names path keep old new answer
    → OutOfMemoryOr (RefusesImportAs required Nowhere answer) e
    → RefusesBundle required names path keep old new (of_answer e)
import_refused required names path keep old new answer error.Memory is told =
    fine required names path keep old new is.0.value is.0.root_ is.0.buffers is.0.images
    is.0.pictures is.0.lost is.0.gathered is.1
import_refused required names path keep old new answer e is told =
    no_container required names path keep answer e is.0 refl told

-- the container is too long to be written
pub write_refused : (value : Data) (blob : Option (List ℕ)) (json : List ℕ) (e : Error)
    → (depth value ≤ max_depth → Reads json value) → IsCompact value json
    → RefusesToWrite json blob e → RefusesContainerOf value blob (of_answer e)
write_refused value blob json error.Memory reads compact told = refl
write_refused value blob json e reads compact told = (json, reads, compact, refl, told)

-- ---- the bytes so far are no more than all

pub no_longer : (buffers : List Buffer) (n : ℕ)
    → length (joined (bytes_of_each (take n buffers))) ≤ length (joined (bytes_of_each buffers))
unfolding joined
no_longer [] zero = omega arith
no_longer [] (suc n) = omega arith
no_longer (b ∷ buffers) zero = omega arith
no_longer (b ∷ buffers) (suc n) =
    let later = no_longer buffers n in
    let some =
    length-append (filled b.0.items) (joined (bytes_of_each (take n buffers))) in
    let all = length-append (filled b.0.items) (joined (bytes_of_each buffers)) in
    omega arith

pub with_one_more : (buffers : List Buffer) (i : ℕ) (b : Buffer) (total n : ℕ)
    → i < length buffers → b ≡ get_or buffers i b
    → total ≡ length (joined (bytes_of_each (take i buffers))) → n ≡ length b.0.items
    → total + (n + (8 - n % 8) % 8) ≤ length (joined (bytes_of_each buffers))
with_one_more buffers i b total n h is far count =
    let before = bytes_of_each (take i buffers) in
    let after = bytes_of_each (take (i + 1) buffers) in
    let more : joined after ≡ joined before ++ filled b.0.items =
    ap joined (each_more buffers i b h is) ∙ joined_last before b.0.items in
    let long : length (joined after) ≡ length (joined before) + length (filled b.0.items) =
    ap (λ (xs : List ℕ). length xs) more ∙ length-append (joined before) (filled b.0.items) in
    let here = length_filled b.0.items in
    let whole = no_longer buffers (i + 1) in
    omega arith

pub longer : (m n : ℕ) (f : Fault) → m ≤ n → IsTooLong m f → IsTooLong n f
longer m n (fault.Outside i) h told = told
longer m n fault.TooLong h told = omega arith
longer m n fault.Memory h told = tt
