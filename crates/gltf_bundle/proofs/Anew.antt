-- What a bundle is refused for that is bundled again: the law `again_only_memory_lacks`.
use Rattle.std.proofs.Common.{◌≡◌, ◌≢◌, ◌<◌, ◌≤◌, ℕ, zero, suc, ◌+◌, ◌^◌, List, [], ◌∷◌, ◌++◌}
use Rattle.std.proofs.Common.{length, Option, Some, None, true, false, codes, refl, sym, ap, subst}
use Rattle.std.proofs.Common.{◌∙◌, arith}
use Rattle.std.proofs.Common.{slice_get, ◌⊎◌, inl, inr, length-append, true≢false}
use Rattle.std.specs.Prelude.{option_and_then}
use Rattle.serde_json.specs.Data.{Data, Items, no_items, item}
use Rattle.serde_json.specs.Find.{get_item}
use Rattle.serde_json.specs.Written.{has_float}
use Rattle.gltf_json.specs.declared.root.Root.{Root}
use Rattle.gltf_edit.specs.Bundled.{ArePlaced, size_at}
use Rattle.gltf_edit.specs.Embedded.{embedded, items_at, own_uri}
use Rattle.gltf_edit.specs.EmbeddedLaws.{object_embedded, no_own_uri}
use Rattle.gltf_edit.specs.Faults.{NamesStray}
use Rattle.gltf_edit.specs.Joined.{joined, spans_from, span}
use Rattle.gltf_edit.specs.JoinedLaws.{stands}
use Rattle.gltf_edit.specs.declared.fault.Fault.TheVariants.{Outside}
use Rattle.gltf_edit.specs.declared.picture.Picture.{Picture}
use Rattle.gltf_edit.specs.declared.span.Span.{Span}
use Rattle.gltf_moved.specs.Laws.{moved_value, one_list}
use Rattle.gltf_glb.specs.Glb.{RefusesToWrite}
use Rattle.gltf_glb.specs.Laws.{ReadsBack}
use Rattle.gltf_glb.specs.Written.{container_bytes, total_of}
use Rattle.gltf_glb.specs.declared.error.Error.{Error}
use Rattle.gltf_glb.specs.declared.error.Error.TheVariants as error
use Rattle.gltf_names.specs.Named.{Named, File}
use Rattle.gltf_buffers.specs.Names.{Names, Nowhere, Held}
use Rattle.gltf_pack.specs.Laws.{SpacesBehind}
use Rattle.gltf_required.specs.Files.{RefusesFileAs}
use Rattle.gltf_required.specs.Import.{RefusesImportAs}
use Rattle.gltf_required.specs.declared.required.Required.{Required}
use Rattle.gltf_bundle.specs.Bundle.{IsBundle, IsSource, IsAcceptedAs, IsGathered, IsCompact}
use Rattle.gltf_bundle.specs.Bundle.{blob_of}
use Rattle.gltf_bundle.specs.Causes.{is_memory}
use Rattle.gltf_bundle.specs.Images.{IsFirstNotTaken, IsRefused, HasNoMedia, text_at}
use Rattle.gltf_bundle.specs.Laws.{LacksOnlyMemoryAgain}
use Rattle.gltf_bundle.specs.Refusals.{RefusesBundle, HasFailedAtMissing, LacksMemoryOr}
use Rattle.gltf_bundle.specs.declared.error.BundleError.{BundleError}
use Rattle.gltf_bundle.specs.declared.error.BundleError.TheVariants as bundle
use Rattle.gltf_bundle.specs.declared.options.Keep.{Keep}
use Rattle.gltf_bundle.specs.declared.options.Keep.TheVariants as stay
use Rattle.gltf_bundle.proofs.Excluded.{Law, not_refused, file_is_taken}
use Rattle.gltf_bundle.proofs.Settled.{placed_again, no_stray}
use Rattle.gltf_bundle.proofs.Twice.{NoUris, IsNothing, no_missing, no_every, nowhere, same_data}
use Rattle.gltf_bundle.proofs.Twice.{total_again}
use Rattle.gltf_bundle.proofs.Twice as twice

abbrev images : List ℕ
images = codes "images"

-- ---- images

no_uri_at : (ds : Items) (i : ℕ) (d : Data) → NoUris ds → get_item i ds ≡ Some d
    → text_at (codes "uri") d ≡ None
no_uri_at no_items zero d none there = cc
no_uri_at no_items (suc i) d none there = cc
no_uri_at (item e ds) zero d none there =
    subst (λ (x : Data). text_at (codes "uri") x ≡ None) (same_data there) none.0
no_uri_at (item e ds) (suc i) d none there = no_uri_at ds i d none.1 there

-- none of images without URIs is one that is not taken in
all_taken : (names : Names) (ds : Items) (i : ℕ) (P : Data → Type 0) → NoUris ds
    → ((d : Data) → P d → (uri : List ℕ) × (own_uri d ≡ Some uri))
    → IsFirstNotTaken names ds i P → ⊥
all_taken names ds i P none has is =
    let found = has is.image is.wrong in
    let never : ◌≡◌ {A = Option (List ℕ)} None (Some found.0) =
    sym (no_own_uri is.image (no_uri_at ds i is.image none is.there)) ∙ found.1 in
    cc

-- ---- places

within_at : (all : List (List ℕ)) (o : Option ℕ) (s : Span)
    → option_and_then (slice_get (spans_from 0 all)) o ≡ Some s
    → s.place + s.length ≤ length (joined all)
within_at all None s there = cc
within_at all (Some i) s there =
    let at = stands 0 all i s there in
    let whole : length (joined all) ≡ length (at.front ++ (at.bytes ++ at.back)) =
    ap (λ (xs : List ℕ). length xs) at.whole in
    let front = length-append at.front (at.bytes ++ at.back) in
    let back = length-append at.bytes at.back in
    let place = at.place in
    let long = at.long in
    omega (arith, whole, front, back, place, long)

whole_of_one : (x : List ℕ) (xs : List (List ℕ))
    → slice_get (spans_from 0 (one_list (x ∷ xs))) 0 ≡ Some (span 0 (length (joined (x ∷ xs))))
unfolding spans_from
whole_of_one x xs = refl

whole_at : (all : List (List ℕ)) (o : Option ℕ) (s : Span)
    → option_and_then (slice_get (spans_from 0 all)) o ≡ Some s
    → slice_get (spans_from 0 (one_list all)) 0 ≡ Some (span 0 (length (joined all)))
whole_at [] o s there = absurd (nowhere o s there)
whole_at (x ∷ xs) o s there = whole_of_one x xs

-- ---- the container

-- a text and a blob that fit are written
only_memory : (text : List ℕ) (blob : Option (List ℕ)) (e : Error) → total_of text blob < 2 ^ 32
    → is_memory e ≡ false → RefusesToWrite text blob e → ⊥
only_memory text blob e fits other (inl long) = let past = long.2 in omega arith
only_memory text blob e fits other (inr memory) =
    true≢false (sym (ap is_memory memory.0) ∙ other)

-- ---- the whole

module _ (law : Law) (back : ReadsBack) (spaces : SpacesBehind)
    (required : Required) (names : Names) (path : List ℕ) (keep : Keep) (answer : List ℕ)
    (is : IsBundle required names path keep answer)
    (whole : has_float (moved_value (is.buffers ++ is.images) is.pictures is.value) ≡ false)
    (others : Required) (accepted : IsAcceptedAs others answer)
    (from : Named → Option (List ℕ)) (other : List ℕ) (held : from (File other) ≡ Some answer)
    (kept : Keep) (only : keep ≢ stay.Nothing → kept ≡ stay.Every) (failures : List Named) where
  abbrev all : List (List ℕ)
  all = is.buffers ++ is.images

  abbrev edited : Data
  edited = moved_value all is.pictures is.value

  keep_nothing : (k : Keep) → keep ≡ k → kept ≡ stay.Nothing → k ≡ stay.Nothing
  keep_nothing stay.Nothing keep_is none = refl
  keep_nothing stay.Missing keep_is none =
      absurd (no_every (sym (only (λ same. no_missing (sym keep_is ∙ same))) ∙ none))
  keep_nothing stay.Every keep_is none =
      absurd (no_every (sym (only (λ same. no_every (sym keep_is ∙ same))) ∙ none))

  module _ (value : Data) (r : Root) (buffers : List (List ℕ))
      (source : IsSource others (Held from) other value r buffers) where
    no_image : (i : ℕ) (P : Data → Type 0)
        → ((d : Data) → P d → (uri : List ℕ) × (own_uri d ≡ Some uri))
        → kept ≡ stay.Nothing → IsFirstNotTaken (Held from) (items_at images value) i P → ⊥
    no_image i P has none told =
        let value_is = twice.value_is law.one back spaces required names path keep answer is from
        other held others value r buffers source in
        let without = twice.without_uris law.one back spaces required names path keep answer is from
        other held others value r buffers source keep refl (keep_nothing keep refl none) in
        all_taken (Held from) (items_at images value) i P
        (subst (λ (d : Data). NoUris (items_at images d)) (sym value_is) without) has told

    module _ (taken : List (List ℕ)) (ps : List (Option Picture)) (lost : List Named)
        (gathered : IsGathered others (Held from) other kept value r buffers taken ps lost) where
      none : IsNothing ps taken edited
      none =
          twice.nothing law.one back spaces required names path keep answer is from other held
          others value r buffers source kept ps taken lost gathered.taken only

      all_is : buffers ++ taken ≡ one_list all
      all_is =
          twice.all_again law.one back spaces required names path keep answer is from other held
          others value r buffers source kept ps taken lost gathered.taken none

      embedded_is : embedded ps value ≡ edited
      embedded_is =
          twice.embedded_again law.one back spaces required names path keep answer is from other
          held others value r buffers source kept ps taken lost gathered.taken none

      no_view : (i : ℕ)
          → NamesStray (spans_from 0 (buffers ++ taken)) (embedded ps value) (Outside i) → ⊥
      no_view i told =
          let moved : NamesStray (spans_from 0 (one_list all)) edited (Outside i) =
          subst (λ (d : Data). NamesStray (spans_from 0 (one_list all)) d (Outside i)) embedded_is
          (subst (λ (bs : List (List ℕ)).
          NamesStray (spans_from 0 bs) (embedded ps value) (Outside i)) all_is told) in
          let between = embedded is.pictures is.value in
          let total = length (joined all) in
          let object = object_embedded is.pictures is.value
          (twice.is_object law.one back spaces required names path keep answer is from other held
          others value r buffers source) in
          let placed : ArePlaced (spans_from 0 (one_list all)) edited =
          placed_again (spans_from 0 all) (spans_from 0 (one_list all)) total
          (λ d s there. within_at all (size_at (codes "buffer") d) s there)
          (λ d s there. whole_at all (size_at (codes "buffer") d) s there) total between object
          is.placed in
          no_stray (spans_from 0 (one_list all)) edited i placed moved

      no_more : 2 ^ 32 ≤ length (joined (buffers ++ taken)) → ⊥
      no_more long =
          let same : length (joined (buffers ++ taken)) ≡ length (joined all) =
          ap (λ (bs : List (List ℕ)). length (joined bs)) all_is ∙ total_again all in
          let short = is.short in
          omega arith

      no_answer : (json : List ℕ)
          → IsCompact (moved_value (buffers ++ taken) ps value) json
          → (e : Error) → is_memory e ≡ false
          → RefusesToWrite json (blob_of (buffers ++ taken)) e
          ⊎ RefusesImportAs others Nowhere (container_bytes json (blob_of (buffers ++ taken))) e
          → ⊥
      no_answer json compact e not_memory fault =
          let text : json ≡ is.json =
          twice.text_again law.one back spaces required names path keep answer is from other held
          others value r buffers source kept ps taken lost gathered.taken none whole json compact in
          let blob : blob_of (buffers ++ taken) ≡ blob_of all =
          twice.blob_is law.one back spaces required names path keep answer is from other held
          others value r buffers source kept ps taken lost gathered.taken none in
          refused (subst (λ (b : Option (List ℕ)).
          RefusesToWrite is.json b e
          ⊎ RefusesImportAs others Nowhere (container_bytes is.json b) e) blob
          (subst (λ (t : List ℕ).
          RefusesToWrite t (blob_of (buffers ++ taken)) e
          ⊎ RefusesImportAs others Nowhere (container_bytes t (blob_of (buffers ++ taken))) e) text
          fault)) where
            refused : RefusesToWrite is.json (blob_of all) e
                ⊎ RefusesImportAs others Nowhere (container_bytes is.json (blob_of all)) e → ⊥
            refused (inl told) = only_memory is.json (blob_of all) e is.fits not_memory told
            refused (inr told) =
                not_refused law others Nowhere tt answer accepted.0 accepted.1 accepted.2 e
                (subst (λ (bytes : List ℕ). RefusesImportAs others Nowhere bytes e)
                (sym is.written) told)

  no_import : (e : Error)
      → LacksMemoryOr (HasFailedAtMissing others (Held from) other kept failures failures)
      (RefusesFileAs others (Held from) other failures failures) e
      → bundle.Import e ≡ bundle.Import error.Memory
  no_import error.Memory told = refl
  no_import e told =
      absurd (file_is_taken law others from other answer held accepted failures e (λ same. cc) told)

  pub memory_alone : (e : BundleError)
      → RefusesBundle others (Held from) other kept failures failures e
      → e ≡ bundle.Import error.Memory
  memory_alone (bundle.Import e) told = no_import e told
  memory_alone (bundle.View i) told =
      absurd (no_view told.value told.root_ told.buffers told.gathered.source told.images
      told.pictures told.lost told.gathered i told.stray)
  memory_alone (bundle.Image i u e) told =
      absurd (no_image told.value told.root_ told.buffers told.source i
      (IsRefused (Held from) failures failures u e)
      (λ d refused. (refused.unread.uri, refused.unread.there)) told.told.0 told.told.1)
  memory_alone (bundle.ImageType i) told =
      absurd (no_image told.value told.root_ told.buffers told.source i
      (HasNoMedia (Held from) failures failures)
      (λ d refused. (refused.uri, refused.there)) told.told.0 told.told.1)
  memory_alone bundle.TooLong told =
      absurd (no_more told.value told.root_ told.buffers told.gathered.source told.images
      told.pictures told.lost told.gathered told.long)
  memory_alone (bundle.Answer e) told =
      absurd (no_answer told.value told.root_ told.buffers told.gathered.source told.images
      told.pictures told.lost told.gathered told.json told.compact e told.not_memory told.fault)

pub lacks_only_memory : Law → ReadsBack → SpacesBehind → LacksOnlyMemoryAgain
lacks_only_memory law back spaces required names path keep answer is whole others accepted from
    other held kept only failures e told =
    memory_alone law back spaces required names path keep answer is whole others accepted from other
    held kept only failures e told
