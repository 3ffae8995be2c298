-- What errors say.
use Rattle.std.proofs.Common.{◌≡◌, ◌≢◌, ℕ, ◌<◌, ◌++◌, List, Option, None, length, get_or, Some}
use Rattle.std.proofs.Common.{Bool, true, false, [], ◌∷◌, inl, inr, string_bytes}
use Rattle.std.proofs.Common.{refl, sym, ap, subst, take}
use Rattle.std.proofs.Common.{◌∙◌, codes}
use Rattle.serde_json.specs.Data.{Data}
use Rattle.serde_json.specs.View.{view, items_view}
use Rattle.serde_json.specs.declared.value.Value.{Value}
use Rattle.serde_json.proofs.Views.{get_item_within}
use Rattle.gltf_json.specs.declared.root.Root.{Root}
use Rattle.gltf_edit.specs.Bundled.{size_at}
use Rattle.gltf_edit.specs.Embedded.{items_at, own_uri, own_uri_at}
use Rattle.gltf_glb.specs.declared.error.Error.{Error}
use Rattle.gltf_glb.specs.declared.error.Error.TheVariants as glb
use Rattle.gltf_names.specs.Named.{Named}
use Rattle.gltf_buffers.specs.Names.{Names}
use Rattle.gltf.specs.Errors.{OutOfMemoryOr}
use Rattle.gltf_required.specs.Files.{RefusesFileAs}
use Rattle.gltf_required.specs.Import.{RefusesDocumentAs}
use Rattle.gltf_required.specs.declared.required.Required.{Required}
use Rattle.gltf_bundle.specs.Bundle.{IsSource}
use Rattle.gltf_bundle.specs.Causes.{of_answer}
use Rattle.gltf_bundle.specs.Images.{IsRefused, IsUnread, RefusesRead, text_at}
use Rattle.gltf_bundle.specs.Keep.{spares}
use Rattle.gltf_bundle.specs.Refusals.{RefusesSource, LacksMemoryOr}
use Rattle.gltf_bundle.specs.declared.error.BundleError.{BundleError}
use Rattle.gltf_bundle.specs.declared.error.BundleError.TheVariants as bundle
use Rattle.gltf_split.specs.Images.{RefusesImages, RefusesOwn, RefusesKept, RefusesView}
use Rattle.gltf_split.specs.Images.{HoldsAt, HasStrayView, AreParts, Stays, FailedAtMissing}
use Rattle.gltf_split.proofs.Made.{none_before, failed_at, failed_behind}
use Rattle.gltf_detach.specs.declared.part.Part.{Part}
use Rattle.gltf_split.specs.Refusals.{RefusesSplit, HasFailedAtMissing}
use Rattle.gltf_split.specs.Splits.{Splits, IsLaidOut}
use Rattle.gltf_split.specs.declared.splitting.Pieces.{Pieces}
use Rattle.gltf_split.specs.Views.{view_bytes}
use Rattle.gltf_bundle.specs.declared.options.Keep.{Keep}
use Rattle.gltf_bundle.specs.declared.options.Keep.TheVariants.{Nothing, Missing, Every}

-- ---- images

at_index : (vs : List Value) (i : ℕ) (v : Value) (j : ℕ) → i < length vs → v ≡ get_or vs i v
    → j ≡ i → (P : Data → Type 0) → P (view v) → HoldsAt (items_view vs) j P
at_index vs i v j h is same P wrong =
    subst (λ (k : ℕ). HoldsAt (items_view vs) k P) (sym same)
    record {
      image = view v;
      there = sym (get_item_within vs i v h) ∙ ap (λ w. Some (view w)) (sym is);
      wrong = wrong;
    }

-- none of them may stay
none_stays : (keep : Keep) → keep ≢ Missing → keep ≢ Every → keep ≡ Nothing
none_stays Nothing not_missing some = refl
none_stays Missing not_missing some = absurd (not_missing refl)
none_stays Every not_missing some = absurd (some refl)

module _ (keep : Keep) (names : Names) (stem : List ℕ) (buffers : List (List ℕ))
    (document : Data) (old new : List Named) (some : keep ≢ Every) where
  pub one_refused : (vs : List Value) (i : ℕ) (v : Value) (e : BundleError)
      (ps : List (Option Part)) (lost : List Named)
      → AreParts keep names stem buffers document 0 (items_view (take i vs)) ps lost
      → i < length vs → v ≡ get_or vs i v
      → RefusesKept keep names buffers document i (lost ++ old) new (view v) e
      → RefusesImages keep names buffers document (items_view vs) old new e
  one_refused vs i v (bundle.Image j u e) ps lost far h is told =
      let nothing = none_stays keep told.0 some in
      let none = none_before keep names stem buffers document 0 (items_view (take i vs)) ps lost
      nothing far in (
        nothing,
        at_index vs i v j h is told.1.0 (IsRefused names old new u e)
            (subst (λ (l : List Named). IsRefused names (l ++ old) new u e (view v)) none
            told.1.2),
      )
  one_refused vs i v (bundle.View n) ps lost far h is told = (
    some,
    record {
      index = i;
      holds = at_index vs i v i h is refl (HasStrayView buffers document n) told;
    },
  )
  one_refused vs i v (bundle.Import e) ps lost far h is told =
      (told.0, failed_at keep names stem buffers document vs i ps lost old new far told.1)
  one_refused vs i v (bundle.ImageType j) ps lost far h is told = absurd told
  one_refused vs i v bundle.TooLong ps lost far h is told = absurd told
  one_refused vs i v (bundle.Answer e) ps lost far h is told = absurd told

module _ (names : Names) (buffers : List (List ℕ)) (document : Data) (old new : List Named) where
  -- ---- one image

  pub view_refused : (d : Data) (v i : ℕ) (e : BundleError) → new ≡ old
      → size_at (codes "bufferView") d ≡ Some v → RefusesView buffers document v e
      → RefusesOwn names buffers document i old new d e
  view_refused d v i (bundle.View w) same is told = record {
    names_it = is ∙ ap (λ (n : ℕ). Some n) (sym told.0);
    stray = ap (λ (n : ℕ). view_bytes buffers document n) told.0 ∙ told.1;
  }
  view_refused d v i (bundle.Import e) same is told = (told, same)
  view_refused d v i (bundle.Image j u e) same is told = absurd told
  view_refused d v i (bundle.ImageType j) same is told = absurd told
  view_refused d v i bundle.TooLong same is told = absurd told
  view_refused d v i (bundle.Answer e) same is told = absurd told

  -- an image that names no view is read by its URI
  own : (d : Data) (uri : List ℕ) → size_at (codes "bufferView") d ≡ None
      → text_at (codes "uri") d ≡ Some uri → own_uri d ≡ Some uri
  own d uri no_view there =
      ap (λ (o : Option ℕ). own_uri_at o (text_at (codes "uri") d)) no_view ∙ there

  pub uri_refused : (d : Data) (uri : List ℕ) (i : ℕ) (e : BundleError)
      → size_at (codes "bufferView") d ≡ None → text_at (codes "uri") d ≡ Some uri
      → RefusesRead names i old new uri e → RefusesOwn names buffers document i old new d e
  uri_refused d uri i (bundle.Image j u e) no_view there told = (
    told.0,
    no_view,
    record {
      not_memory = told.2;
      unread = record { uri = uri; there = own d uri no_view there; fails = told.3 };
      uri = told.1;
    },
  )
  uri_refused d uri i (bundle.Import e) no_view there told = told
  uri_refused d uri i (bundle.View w) no_view there told = absurd told
  uri_refused d uri i (bundle.ImageType j) no_view there told = absurd told
  uri_refused d uri i bundle.TooLong no_view there told = absurd told
  uri_refused d uri i (bundle.Answer e) no_view there told = absurd told

-- ---- an image that may stay

module _ (names : Names) (buffers : List (List ℕ)) (document : Data) (i : ℕ)
    (old new : List Named) where
  abbrev Spared : Keep → Data → Type 0
  Spared keep d = (lost : List Named) × Stays keep names d lost × (new ≡ lost ++ old)

  -- a source that failed, or did not
  unread_spared : (d : Data) (e : Error) → e ≢ glb.Memory
      → size_at (codes "bufferView") d ≡ None → IsUnread names old new e d → Spared Missing d
  unread_spared d (glb.Io cause) not_memory no_view unread = (
    unread.fails.0 ∷ [],
    inr (record {
      no_view = no_view;
      cause = glb.Io cause;
      not_memory = not_memory;
      unread = record {
        uri = unread.uri;
        there = unread.there;
        fails = (unread.fails.0, unread.fails.1, refl);
      };
    }),
    unread.fails.2,
  )
  unread_spared d glb.Memory not_memory no_view unread = absurd (not_memory refl)
  unread_spared d e not_memory no_view unread = (
    [],
    inr (record {
      no_view = no_view;
      cause = e;
      not_memory = not_memory;
      unread = record { uri = unread.uri; there = unread.there; fails = (refl, unread.fails.1) };
    }),
    unread.fails.0,
  )

  pub spared : (keep : Keep) (d : Data) (e : BundleError) → spares keep e ≡ true
      → RefusesOwn names buffers document i old new d e → Spared keep d
  spared Missing d (bundle.Image j u e) is told =
      unread_spared d e told.2.not_memory told.1 told.2.unread
  spared Missing d (bundle.ImageType j) is told = absurd told
  spared Missing d (bundle.Import e) is told = cc
  spared Missing d (bundle.View v) is told = cc
  spared Missing d bundle.TooLong is told = cc
  spared Missing d (bundle.Answer e) is told = cc
  spared Nothing d e is told = cc
  spared Every d e is told = cc

  pub not_spared : (keep : Keep) (d : Data) (e : BundleError) → spares keep e ≡ false
      → RefusesOwn names buffers document i old new d e
      → RefusesKept keep names buffers document i old new d e
  not_spared Nothing d (bundle.Image j u e) is told = (λ same. cc, told)
  not_spared Missing d (bundle.Image j u e) is told = cc
  not_spared Every d (bundle.Image j u e) is told = (λ same. cc, told)
  not_spared keep d (bundle.View v) is told = told
  not_spared keep d (bundle.Import e) is told = told
  not_spared keep d (bundle.ImageType j) is told = absurd told
  not_spared keep d bundle.TooLong is told = absurd told
  not_spared keep d (bundle.Answer e) is told = absurd told

-- ---- the whole

weaker : (M N : Type 0) (P : Error → Type 0) (e : Error) → (M → N) → LacksMemoryOr M P e
    → LacksMemoryOr N P e
weaker M N P glb.Memory f told = f told
weaker M N P e f told = told

-- the source did not fail
as_before : (required : Required) (names : Names) (path : List ℕ) (keep : Keep)
    (old new : List Named) → new ≡ old → HasFailedAtMissing required names path keep old new
as_before required names path Nothing old new same = same
as_before required names path Missing old new same = inl same
as_before required names path Every old new same = same

-- it failed at names of images of a file that is accepted
pub at_images : (required : Required) (names : Names) (path : List ℕ) (keep : Keep)
    (old new : List Named) (value : Data) (r : Root) (buffers : List (List ℕ))
    → IsSource required names path value r buffers
    → FailedAtMissing keep names buffers value (items_at (codes "images") value) old new
    → HasFailedAtMissing required names path keep old new
at_images required names path Nothing old new value r buffers source failed = failed
at_images required names path Missing old new value r buffers source failed =
    inr (record {
      value = value;
      root_ = r;
      buffers = buffers;
      source = source;
      failed = failed;
    })
at_images required names path Every old new value r buffers source failed = failed

module _ (required : Required) (names : Names) (path stem : List ℕ) (keep : Keep)
    (drop pretty : Bool) (old new : List Named) where
  pub source_refused : (e : BundleError) → RefusesSource required names path old new e
      → RefusesSplit required names path stem keep drop pretty old new e
  source_refused (bundle.Import e) told =
      weaker (new ≡ old) (HasFailedAtMissing required names path keep old new)
      (RefusesFileAs required names path old new) e (as_before required names path keep old new)
      told
  source_refused (bundle.View v) told = absurd told
  source_refused (bundle.Image i u e) told = absurd told
  source_refused (bundle.ImageType i) told = absurd told
  source_refused bundle.TooLong told = absurd told
  source_refused (bundle.Answer e) told = absurd told

  module _ (value : Data) (r : Root) (buffers : List (List ℕ))
      (source : IsSource required names path value r buffers) where
    pub images_refused : (e : BundleError)
        → RefusesImages keep names buffers value (items_at (codes "images") value) old new e
        → RefusesSplit required names path stem keep drop pretty old new e
    images_refused (bundle.Import e) told =
        subst (λ e.
        LacksMemoryOr (HasFailedAtMissing required names path keep old new)
        (RefusesFileAs required names path old new) e)
        (sym told.0) (at_images required names path keep old new value r buffers source told.1)
    images_refused (bundle.View v) told =
        record { value = value; root_ = r; buffers = buffers; source = source; told = told }
    images_refused (bundle.Image i u e) told =
        record { value = value; root_ = r; buffers = buffers; source = source; told = told }
    images_refused (bundle.ImageType i) told = absurd told
    images_refused bundle.TooLong told = absurd told
    images_refused (bundle.Answer e) told = absurd told

  -- the text was made, and is refused, or there was not enough memory to read it
  pub answer_refused : (set : Pieces) → Splits required names path stem keep drop old new set
      → IsLaidOut pretty (string_bytes set.json) → (e : Error)
      → OutOfMemoryOr (RefusesDocumentAs required (string_bytes set.json)) e
      → RefusesSplit required names path stem keep drop pretty old new (of_answer e)
  answer_refused set is laid glb.Memory told =
      at_images required names path keep old new is.0.value is.0.root_ is.0.whole is.0.source
      (failed_behind keep names stem is.0.whole is.0.value set.images.items is.0.lost old new
      is.0.images is.1)
  answer_refused set is laid e told =
      record { set = set; is = is.0; laid = laid; not_memory = λ same. cc; fault = told }
