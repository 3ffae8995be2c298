-- Images that are taken in, one after the other.
use Rattle.std.proofs.Common.{◌≡◌, ℕ, zero, suc, ◌+◌, ◌<◌, List, [], ◌∷◌, ◌++◌, length, take}
use Rattle.std.proofs.Common.{get_or, refl, sym, ap, subst, ◌∙◌, arith, add-one, Option, Some, None}
use Rattle.std.proofs.Common.{length-append, append_assoc, codes, ◌≢◌, true, false, inl, inr}
use Rattle.std.proofs.Math.Seq.{take-suc}
use Rattle.std.proofs.lemmas.List.{append-nil, map-append}
use Rattle.serde_json.specs.Data.{Data, Items, no_items, item}
use Rattle.serde_json.specs.Events.{items_len}
use Rattle.serde_json.specs.View.{view, items_view}
use Rattle.serde_json.specs.declared.value.Value.{Value}
use Rattle.serde_json.proofs.Views.{get_item_within}
use Rattle.gltf_edit.specs.Embedded.{buffers_of, items_at, own_uri}
use Rattle.gltf_edit.specs.declared.picture.Picture.{Picture}
use Rattle.gltf_names.specs.Named.{Named}
use Rattle.gltf_buffers.specs.Names.{Names}
use Rattle.gltf_buffers.specs.Shown.{bytes_of_each}
use Rattle.gltf_buffers.specs.declared.data.Data.{Data as Buffer}
use Rattle.gltf_bundle.specs.Images.{AllTaken, AreTaken, Takes, Stays, HasNoUri, front}
use Rattle.gltf_bundle.specs.Images.{IsFirstNotTaken, FailedAtFirst, FailedAtMissing}
use Rattle.gltf_bundle.specs.Images.{RefusesKept, RefusesImages, IsRefused, HasNoMedia}
use Rattle.gltf_bundle.specs.Images.{RefusesImage, RefusesRead, IsUnread}
use Rattle.gltf_bundle.specs.Keep.{spares}
use Rattle.gltf_glb.specs.declared.error.Error.{Error}
use Rattle.gltf_glb.specs.declared.error.Error.TheVariants as error
use Rattle.gltf_bundle.specs.declared.error.BundleError.{BundleError}
use Rattle.gltf_bundle.specs.declared.error.BundleError.TheVariants as bundle
use Rattle.gltf_bundle.specs.declared.options.Keep.{Keep}
use Rattle.gltf_bundle.specs.declared.options.Keep.TheVariants.{Nothing, Missing, Every}

module _ (keep : Keep) (names : Names) where
  -- one more
  pub one_more : (vs : List Value) (ps : List (Option Picture)) (taken : List (List ℕ))
      (lost : List Named) → AllTaken keep names (items_view vs) ps taken lost
      → (v : Value) (p : Option Picture) (one : List (List ℕ)) (first : List Named)
      → Takes keep names (view v) p one first
      → AllTaken keep names (items_view (vs ++ v ∷ [])) (ps ++ p ∷ []) (taken ++ one)
      (first ++ lost)
  one_more [] [] taken lost all v p one first takes = (
    one,
    [],
    first,
    [],
    takes,
    (refl, refl),
    ap (λ (xs : List (List ℕ)). xs ++ one) all.0 ∙ sym (append-nil one),
    ap (λ (xs : List Named). first ++ xs) all.1 ∙ append-nil first,
  )
  one_more [] (q ∷ ps) taken lost all v p one first takes = absurd all
  one_more (w ∷ vs) [] taken lost all v p one first takes = absurd all
  one_more (w ∷ vs) (q ∷ ps) taken lost (here, later, was, behind, head, rest, is, lost_is) v p one
      first takes = (
        here,
        later ++ one,
        was,
        first ++ behind,
        head,
        one_more vs ps later behind rest v p one first takes,
        ap (λ (xs : List (List ℕ)). xs ++ one) is ∙ append_assoc here later one,
        ap (λ (xs : List Named). first ++ xs) lost_is ∙ sym (append_assoc first behind was),
      )

  -- as many buffers as bytes
  pub as_many : (ds : Items) (ps : List (Option Picture)) (taken : List (List ℕ))
      (lost : List Named) → AllTaken keep names ds ps taken lost
      → length taken ≡ items_len (buffers_of ps)
  as_many no_items [] taken lost all = ap (λ (xs : List (List ℕ)). length xs) all.0
  as_many no_items (p ∷ ps) taken lost all = absurd all
  as_many (item d ds) [] taken lost all = absurd all
  as_many (item d ds) (None ∷ ps) taken lost (one, more, was, behind, first, rest, is, lost_is) =
      let here = ap (λ (xs : List (List ℕ)). length xs) first.1 in
      let later = as_many ds ps more behind rest in
      let both = ap (λ (xs : List (List ℕ)). length xs) is ∙ length-append one more in
      omega (arith, here, later, both)
  as_many (item d ds) (Some p ∷ ps) taken lost
      (one, more, was, behind, first, rest, is, lost_is) =
      let here = ap (λ (xs : List (List ℕ)). length xs) first.2 in
      let later = as_many ds ps more behind rest in
      let both = ap (λ (xs : List (List ℕ)). length xs) is ∙ length-append one more in
      omega (arith, here, later, both)

pub as_many_taken : (keep : Keep) (names : Names) (value : Data) (ps : List (Option Picture))
    (taken : List (List ℕ)) (lost : List Named) → AreTaken keep names value ps taken lost
    → length taken ≡ items_len (buffers_of ps)
as_many_taken Every names value ps taken lost are =
    ap (λ (xs : List (List ℕ)). length xs) are.1
    ∙ sym (ap (λ (qs : List (Option Picture)). items_len (buffers_of qs)) are.0)
as_many_taken Nothing names value ps taken lost are = as_many Nothing names _ ps taken lost are
as_many_taken Missing names value ps taken lost are = as_many Missing names _ ps taken lost are

-- where an image that stays has no URI, the source does not fail
no_loss : (keep : Keep) (names : Names)
    → ((d : Data) (l : List Named) → Stays keep names d l → HasNoUri d l) → (ds : Items)
    (ps : List (Option Picture)) (taken : List (List ℕ)) (lost : List Named)
    → AllTaken keep names ds ps taken lost → lost ≡ []
no_loss keep names bare no_items [] taken lost all = all.1
no_loss keep names bare no_items (p ∷ ps) taken lost all = absurd all
no_loss keep names bare (item d ds) [] taken lost all = absurd all
no_loss keep names bare (item d ds) (None ∷ ps) taken lost
    (one, more, was, behind, first, rest, is, lost_is) =
    lost_is
    ∙ (λ i. no_loss keep names bare ds ps more behind rest i ++ (bare d was first.0).fine i)
no_loss keep names bare (item d ds) (Some p ∷ ps) taken lost
    (one, more, was, behind, first, rest, is, lost_is) =
    lost_is ∙ (λ i. no_loss keep names bare ds ps more behind rest i ++ first.3 i)

pub none_lost : (keep : Keep) (names : Names) (ds : Items) (ps : List (Option Picture))
    (taken : List (List ℕ)) (lost : List Named) → AllTaken keep names ds ps taken lost
    → keep ≢ Missing → lost ≡ []
none_lost Nothing names ds ps taken lost all some =
    no_loss Nothing names (λ d l bare. bare) ds ps taken lost all
none_lost Every names ds ps taken lost all some =
    no_loss Every names (λ d l bare. bare) ds ps taken lost all
none_lost Missing names ds ps taken lost all some = absurd (some refl)

all_of : (ds : Items) → front (items_len ds) ds ≡ ds
all_of no_items = refl
all_of (item d ds) = ap (item d) (all_of ds)

no_missing : Nothing ≢ Missing
no_missing same = cc

no_missing_of_all : Every ≢ Missing
no_missing_of_all same = cc

-- so it failed at no name but those of images that are missing and stay
pub failed_behind : (keep : Keep) (names : Names) (value : Data) (ps : List (Option Picture))
    (taken : List (List ℕ)) (lost old new : List Named) → AreTaken keep names value ps taken lost
    → new ≡ lost ++ old → FailedAtMissing keep names (items_at (codes "images") value) old new
failed_behind Every names value ps taken lost old new are after =
    after ∙ ap (λ (l : List Named). l ++ old) are.2
failed_behind Nothing names value ps taken lost old new are after =
    after
    ∙ ap (λ (l : List Named). l ++ old) (none_lost Nothing names _ ps taken lost are no_missing)
failed_behind Missing names value ps taken lost old new are after =
    let ds = items_at (codes "images") value in
    record {
      count = items_len ds;
      pictures = ps;
      taken = taken;
      lost = lost;
      before = subst (λ es. AllTaken Missing names es ps taken lost) (sym (all_of ds)) are;
      after = after;
    }

-- all stay
pub none_of_all : (keep : Keep) (names : Names) (value : Data) → keep ≡ Every
    → AreTaken keep names value [] [] []
none_of_all keep names value every =
    subst (λ (k : Keep). AreTaken k names value [] [] []) (sym every) (refl, refl, refl)

-- of each image that is taken in or stays, so do the others
pub taken_all : (keep : Keep) (names : Names) (value : Data) (ps : List (Option Picture))
    (taken : List (List ℕ)) (lost : List Named) → (keep ≡ Every → ⊥)
    → AllTaken keep names (items_at (codes "images") value) ps taken lost
    → AreTaken keep names value ps taken lost
taken_all Nothing names value ps taken lost some all = all
taken_all Missing names value ps taken lost some all = all
taken_all Every names value ps taken lost some all = absurd (some refl)

-- ---- values beside items

front_of : (vs : List Value) (i : ℕ) → items_view (take i vs) ≡ front i (items_view vs)
front_of [] zero = refl
front_of [] (suc i) = refl
front_of (v ∷ vs) zero = refl
front_of (v ∷ vs) (suc i) = ap (item (view v)) (front_of vs i)

pub taken_more : (vs : List Value) (i : ℕ) (v : Value) → i < length vs → v ≡ get_or vs i v
    → take (i + 1) vs ≡ take i vs ++ v ∷ []
taken_more vs i v h is =
    ap (λ (n : ℕ). take n vs) (add-one i) ∙ take-suc vs i v h
    ∙ ap (λ (w : Value). take i vs ++ w ∷ []) (sym is)

at_index : (names : Names) (vs : List Value) (i : ℕ) (v : Value) (ps : List (Option Picture))
    (taken : List (List ℕ)) (j : ℕ) → i < length vs → v ≡ get_or vs i v
    → AllTaken Nothing names (items_view (take i vs)) ps taken [] → j ≡ i → (P : Data → Type 0)
    → P (view v) → IsFirstNotTaken names (items_view vs) j P
at_index names vs i v ps taken j h is far same P wrong =
    subst (λ (k : ℕ). IsFirstNotTaken names (items_view vs) k P) (sym same)
    record {
      pictures = ps;
      taken = taken;
      before = subst (λ ds. AllTaken Nothing names ds ps taken []) (front_of vs i) far;
      image = view v;
      there = sym (get_item_within vs i v h) ∙ ap (λ w. Some (view w)) (sym is);
      wrong = wrong;
    }

-- the source failed at no name but those of the first images that are missing and stay
pub failed_at : (keep : Keep) (names : Names) (vs : List Value) (i : ℕ)
    (ps : List (Option Picture)) (taken : List (List ℕ)) (lost old new : List Named)
    → AllTaken keep names (items_view (take i vs)) ps taken lost → new ≡ lost ++ old
    → FailedAtMissing keep names (items_view vs) old new
failed_at Nothing names vs i ps taken lost old new far after =
    after
    ∙ ap (λ (l : List Named). l ++ old) (none_lost Nothing names _ ps taken lost far no_missing)
failed_at Every names vs i ps taken lost old new far after =
    after
    ∙ ap (λ (l : List Named). l ++ old)
    (none_lost Every names _ ps taken lost far no_missing_of_all)
failed_at Missing names vs i ps taken lost old new far after = record {
  count = i;
  pictures = ps;
  taken = taken;
  lost = lost;
  before = subst (λ ds. AllTaken Missing names ds ps taken lost) (front_of vs i) far;
  after = after;
}

-- at none, where it was not asked for one
pub none_failed : (keep : Keep) (names : Names) (vs : List Value) (old : List Named)
    → FailedAtMissing keep names (items_view vs) old old
none_failed Nothing names vs old = refl
none_failed Every names vs old = refl
none_failed Missing names vs old = record {
  count = 0;
  pictures = [];
  taken = [];
  lost = [];
  before = (refl, refl);
  after = refl;
}

-- no image before it may stay that is missing
before_it : (keep : Keep) (names : Names) (ds : Items) (ps : List (Option Picture))
    (taken : List (List ℕ)) (lost : List Named) → AllTaken keep names ds ps taken lost
    → keep ≡ Nothing → AllTaken Nothing names ds ps taken [] × (lost ≡ [])
before_it keep names ds ps taken lost far nothing =
    let all = subst (λ (k : Keep). AllTaken k names ds ps taken lost) nothing far in
    let none = none_lost Nothing names ds ps taken lost all no_missing in
    (subst (λ (l : List Named). AllTaken Nothing names ds ps taken l) none all, none)

-- the first that is not taken in
pub first_refused : (keep : Keep) (names : Names) (vs : List Value) (i : ℕ) (v : Value)
    (ps : List (Option Picture)) (taken : List (List ℕ)) (lost old new : List Named)
    (e : BundleError) → i < length vs → v ≡ get_or vs i v
    → AllTaken keep names (items_view (take i vs)) ps taken lost
    → RefusesKept keep names i (lost ++ old) new (view v) e
    → RefusesImages keep names (items_view vs) old new e
first_refused keep names vs i v ps taken lost old new (bundle.Image j u e) h is far told =
    let before = before_it keep names (items_view (take i vs)) ps taken lost far told.0 in
    let was : lost ++ old ≡ old = ap (λ (l : List Named). l ++ old) before.1 in (
      told.0,
      at_index names vs i v ps taken j h is before.0 told.1.0 (IsRefused names old new u e)
          (subst (λ (l : List Named). IsRefused names l new u e (view v)) was told.1.1),
    )
first_refused keep names vs i v ps taken lost old new (bundle.ImageType j) h is far told =
    let before = before_it keep names (items_view (take i vs)) ps taken lost far told.0 in
    let was : lost ++ old ≡ old = ap (λ (l : List Named). l ++ old) before.1 in (
      told.0,
      at_index names vs i v ps taken j h is before.0 told.1.0 (HasNoMedia names old new)
          (subst (λ (l : List Named). HasNoMedia names l new (view v)) was told.1.1),
    )
first_refused keep names vs i v ps taken lost old new (bundle.Import e) h is far told =
    (told.0, failed_at keep names vs i ps taken lost old new far told.1)
first_refused keep names vs i v ps taken lost old new (bundle.View j) h is far told =
    absurd told.1
first_refused keep names vs i v ps taken lost old new bundle.TooLong h is far told =
    absurd told.1
first_refused keep names vs i v ps taken lost old new (bundle.Answer e) h is far told =
    absurd told.1

-- the bytes of one more
pub each_last : (bs all : List Buffer) (b : Buffer) → all ≡ bs ++ b ∷ []
    → bytes_of_each all ≡ bytes_of_each bs ++ b.0.items ∷ []
each_last bs all b is =
    ap bytes_of_each is ∙ map-append (λ (d : Buffer). d.0.items) bs (b ∷ [])

-- ---- one image

module _ (names : Names) (i : ℕ) (old new : List Named) where
  pub read_refused : (uri : List ℕ) (d : Data) (e : BundleError)
      → own_uri d ≡ Some uri → RefusesRead names i old new uri e
      → RefusesImage names i old new d e
  read_refused uri d (bundle.Image j u e) there told = (
    told.0,
    record {
      not_memory = told.2;
      unread = record { uri = uri; there = there; fails = told.3 };
      uri = told.1;
    },
  )
  read_refused uri d (bundle.Import e) there told = told
  read_refused uri d (bundle.View j) there told = absurd told
  read_refused uri d (bundle.ImageType j) there told = absurd told
  read_refused uri d bundle.TooLong there told = absurd told
  read_refused uri d (bundle.Answer e) there told = absurd told

  abbrev Spared : Keep → Data → Type 0
  Spared keep d = (lost : List Named) × Stays keep names d lost × (new ≡ lost ++ old)

  -- a source that failed, or did not
  unread_spared : (d : Data) (e : Error) → e ≢ error.Memory → IsUnread names old new e d
      → Spared Missing d
  unread_spared d (error.Io cause) not_memory unread = (
    unread.fails.0 ∷ [],
    inr (inl (
      error.Io cause,
      not_memory,
      record {
        uri = unread.uri;
        there = unread.there;
        fails = (unread.fails.0, unread.fails.1, refl);
      },
    )),
    unread.fails.2,
  )
  unread_spared d error.Memory not_memory unread = absurd (not_memory refl)
  unread_spared d e not_memory unread = (
    [],
    inr (inl (
      e,
      not_memory,
      record { uri = unread.uri; there = unread.there; fails = (refl, unread.fails.1) },
    )),
    unread.fails.0,
  )

  pub spared : (keep : Keep) (d : Data) (e : BundleError) → spares keep e ≡ true
      → RefusesImage names i old new d e → Spared keep d
  spared Missing d (bundle.Image j u e) is told =
      unread_spared d e told.1.not_memory told.1.unread
  spared Missing d (bundle.ImageType j) is told =
      let media = told.1 in (
        [],
        inr (inr (record {
          uri = media.uri;
          there = media.there;
          bytes = media.bytes;
          meant = media.meant;
          none = media.none;
          fine = refl;
        })),
        media.fine,
      )
  spared Missing d (bundle.Import e) is told = cc
  spared Missing d (bundle.View j) is told = cc
  spared Missing d bundle.TooLong is told = cc
  spared Missing d (bundle.Answer e) is told = cc
  spared Nothing d e is told = cc
  spared Every d e is told = cc

  pub not_spared : (keep : Keep) (d : Data) (e : BundleError) → keep ≢ Every
      → spares keep e ≡ false → RefusesImage names i old new d e
      → RefusesKept keep names i old new d e
  not_spared Nothing d (bundle.Import e) some is told = told
  not_spared Nothing d e some is told = (refl, told)
  not_spared Missing d (bundle.Import e) some is told = told
  not_spared Missing d (bundle.Image j u e) some is told = cc
  not_spared Missing d (bundle.ImageType j) some is told = cc
  not_spared Missing d (bundle.View j) some is told = absurd told
  not_spared Missing d bundle.TooLong some is told = absurd told
  not_spared Missing d (bundle.Answer e) some is told = absurd told
  not_spared Every d e some is told = absurd (some refl)
