-- What a bundle is bundled to: the law `bundled_again`.
use Rattle.std.proofs.Common.{◌≡◌, ℕ, zero, suc, ◌+◌, ◌-◌, ◌%◌, List, [], ◌∷◌, ◌++◌, length, arith}
use Rattle.std.proofs.Common.{Option, Some, None, option_map, false, codes, unwrap_or, ◌≢◌}
use Rattle.std.proofs.Common.{refl, sym, ap, subst, ◌∙◌, slice_get, replicate}
use Rattle.std.proofs.lemmas.List.{append-nil}
use Rattle.std.specs.Prelude.{IsSome, option_and_then, ⊤}
use Rattle.serde_json.specs.Data.{Data, null, boolean, number, string, array, object, Items}
use Rattle.serde_json.specs.Data.{no_items, item}
use Rattle.serde_json.specs.Find.{get, as_object, as_array, as_str}
use Rattle.serde_json.specs.Written.{has_float, compact_text}
use Rattle.gltf_json.specs.Documents.{root}
use Rattle.gltf_json.specs.declared.root.Root.{Root}
use Rattle.gltf_edit.specs.Bundled.{with_member, with_some, bundled}
use Rattle.gltf_edit.specs.Bundled.{size_at}
use Rattle.gltf_edit.specs.BundledLaws.{differ, bundled_other}
use Rattle.gltf_edit.specs.Embedded.{embedded, items_at, list_after, buffers_of, views_of, shown}
use Rattle.gltf_edit.specs.Embedded.{pictured, pictured_in, images_after, count_at, seats}
use Rattle.gltf_edit.specs.EmbeddedLaws.{no_uri, object_embedded, embedded_images}
use Rattle.gltf_edit.specs.EmbeddedLaws.{sole_no_uri, sole_same, no_own_uri}
use Rattle.gltf_edit.specs.Joined.{joined, filled, spans_from, span}
use Rattle.gltf_edit.specs.JoinedLaws.{joined_whole}
use Rattle.gltf_edit.specs.declared.picture.Picture.{Picture}
use Rattle.gltf_edit.specs.declared.span.Span.{Span}
use Rattle.gltf_names.specs.Named.{Named, File}
use Rattle.gltf_buffers.specs.Names.{Names, Held}
use Rattle.gltf_required.specs.Import.{IsRead}
use Rattle.gltf_required.specs.Read.{object_read}
use Rattle.gltf_required.specs.declared.required.Required.{Required}
use Rattle.gltf_glb.specs.Laws.{ReadsBack}
use Rattle.gltf.specs.Laws.{OneTextAndBlob}
use Rattle.gltf_glb.specs.Written.{container_bytes}
use Rattle.gltf_pack.specs.Laws.{SpacesBehind}
use Rattle.gltf_moved.specs.Laws.{moved_value, one_list}
use Rattle.gltf_bundle.specs.Bundle.{IsBundle, IsSource, IsCompact, blob_of}
use Rattle.gltf_bundle.specs.Images.{AllTaken, AreTaken, Takes, text_at}
use Rattle.gltf_bundle.specs.Laws.{BundlesAgain, IsTheSame}
use Rattle.gltf_bundle.proofs.Again.{IsFirst, bundled_again, kept_bundled}
use Rattle.gltf_bundle.proofs.Fixed.{IsSet, set_with, same_with}
use Rattle.gltf_bundle.proofs.Imported.{the_value, the_buffers}
use Rattle.gltf_bundle.proofs.Uris.{over, images_over}
use Rattle.gltf_bundle.specs.declared.options.Keep.{Keep}
use Rattle.gltf_bundle.specs.declared.options.Keep.TheVariants as stay

pub no_missing : stay.Missing ≡ stay.Nothing → ⊥
no_missing same = cc

pub no_every : stay.Every ≡ stay.Nothing → ⊥
no_every same = cc

-- ---- images without URIs

no_text : {x : List ℕ} → ◌≡◌ {A = Option (List ℕ)} None (Some x) → ⊥
no_text same = cc

abbrev pub NoUris : Items → Type 0
NoUris no_items = ⊤
NoUris (item d ds) = (text_at (codes "uri") d ≡ None) × NoUris ds

abbrev NoPictures : List (Option Picture) → Type 0
NoPictures [] = ⊤
NoPictures (None ∷ ps) = NoPictures ps
NoPictures (Some p ∷ ps) = ⊥

module _ (names : Names) where
  one_no_uri : (n : ℕ) (p : Option Picture) (d : Data) (one : List (List ℕ)) (lost : List Named)
      → Takes stay.Nothing names d p one lost → text_at (codes "uri") (shown n p d) ≡ None
  one_no_uri n None d one lost takes = sole_no_uri d takes.0.none
  one_no_uri n (Some p) d one lost takes = ap (option_and_then as_str) (no_uri n p d)

  no_uris : (n : ℕ) (ds : Items) (ps : List (Option Picture)) (taken : List (List ℕ))
      (lost : List Named) → AllTaken stay.Nothing names ds ps taken lost
      → NoUris (pictured n ps ds)
  no_uris n no_items ps taken lost all = tt
  no_uris n (item d ds) [] taken lost all = absurd all
  no_uris n (item d ds) (p ∷ ps) taken lost
      (one, more, was, behind, here, later, whole, lost_is) =
      (one_no_uri n p d one was here, no_uris (n + seats p) ds ps more behind later)

  none_taken : (keep : Keep) (ds : Items) (ps : List (Option Picture)) (taken : List (List ℕ))
      (lost : List Named) → NoUris ds → AllTaken keep names ds ps taken lost
      → NoPictures ps × (taken ≡ [])
  none_taken keep no_items [] taken lost none all = (tt, all.0)
  none_taken keep no_items (p ∷ ps) taken lost none all = absurd all
  none_taken keep (item d ds) [] taken lost none all = absurd all
  none_taken keep (item d ds) (None ∷ ps) taken lost none
      (one, more, was, rest, here, later, whole, lost_is) =
      let behind = none_taken keep ds ps more rest none.1 later in
      (behind.0, whole ∙ ap (λ (xs : List (List ℕ)). xs ++ more) here.1 ∙ behind.1)
  none_taken keep (item d ds) (Some p ∷ ps) taken lost none
      (one, more, was, rest, here, later, whole, lost_is) =
      absurd (no_text (sym (no_own_uri d none.0) ∙ here.1.there))

  empty_taken : (keep : Keep) (ds : Items) (ps : List (Option Picture)) (taken : List (List ℕ))
      (lost : List Named) → ds ≡ no_items → AllTaken keep names ds ps taken lost
      → (ps ≡ []) × (taken ≡ [])
  empty_taken keep no_items [] taken lost none all = (refl, all.0)
  empty_taken keep no_items (p ∷ ps) taken lost none all = absurd all
  empty_taken keep (item d ds) ps taken lost none all = cc

  items_none : (ds : Items) (taken : List (List ℕ)) (lost : List Named)
      → AllTaken stay.Nothing names ds [] taken lost → ds ≡ no_items
  items_none no_items taken lost all = refl
  items_none (item d ds) taken lost all = absurd all

  -- the images of a document, with their pictures
  abbrev items_of : Option Data → Items
  items_of o = unwrap_or (option_and_then as_array o) no_items

  over_no_uris : (n : ℕ) (p : Option Picture) (ps : List (Option Picture)) (taken : List (List ℕ))
      (lost : List Named) (o : Option Data)
      → AllTaken stay.Nothing names (items_of o) (p ∷ ps) taken lost
      → NoUris (items_of (option_map (pictured_in n (p ∷ ps)) o))
  over_no_uris n p ps taken lost None all = tt
  over_no_uris n p ps taken lost (Some null) all = tt
  over_no_uris n p ps taken lost (Some (boolean b)) all = tt
  over_no_uris n p ps taken lost (Some (number x)) all = tt
  over_no_uris n p ps taken lost (Some (string s)) all = tt
  over_no_uris n p ps taken lost (Some (array ds)) all = no_uris n ds (p ∷ ps) taken lost all
  over_no_uris n p ps taken lost (Some (object ms)) all = tt

-- ---- nothing embedded

no_buffers : (ps : List (Option Picture)) → NoPictures ps → buffers_of ps ≡ no_items
no_buffers [] none = refl
no_buffers (None ∷ ps) none = no_buffers ps none
no_buffers (Some p ∷ ps) none = absurd none

no_views : (b : ℕ) (ps : List (Option Picture)) → NoPictures ps → views_of b ps ≡ no_items
no_views b [] none = refl
no_views b (None ∷ ps) none = no_views b ps none
no_views b (Some p ∷ ps) none = absurd none

no_pictures : (n : ℕ) (ps : List (Option Picture)) (ds : Items) → NoPictures ps → NoUris ds
    → pictured n ps ds ≡ ds
no_pictures n ps no_items none bare = refl
no_pictures n [] (item d ds) none bare =
    ap (λ (e : Data). item e (pictured (n + 0) [] ds)) (sole_same d bare.0)
    ∙ ap (item d) (no_pictures (n + 0) [] ds tt bare.1)
no_pictures n (None ∷ ps) (item d ds) none bare =
    ap (λ (e : Data). item e (pictured (n + 0) ps ds)) (sole_same d bare.0)
    ∙ ap (item d) (no_pictures (n + 0) ps ds none bare.1)
no_pictures n (Some p ∷ ps) (item d ds) none bare = absurd none

-- the items of a member
abbrev listed : Option Data → Items
listed o = unwrap_or (option_and_then as_array o) no_items

no_pictures_in : (n : ℕ) (ps : List (Option Picture)) (e : Data) → NoPictures ps
    → NoUris (listed (Some e)) → pictured_in n ps e ≡ e
no_pictures_in n ps null none bare = refl
no_pictures_in n ps (boolean b) none bare = refl
no_pictures_in n ps (number x) none bare = refl
no_pictures_in n ps (string s) none bare = refl
no_pictures_in n ps (array ds) none bare = ap array (no_pictures n ps ds none bare)
no_pictures_in n ps (object ms) none bare = refl

abbrev images : List ℕ
images = codes "images"

no_images_at : (n : ℕ) (ps : List (Option Picture)) (d : Data) (o : Option Data) → NoPictures ps
    → NoUris (listed o) → get images d ≡ o → ((e : Data) → o ≡ Some e → IsSet images e d)
    → with_some images (option_map (pictured_in n ps) o) d ≡ d
no_images_at n ps d None none bare there set = refl
no_images_at n ps d (Some e) none bare there set =
    ap (λ (x : Data). with_member images x d) (no_pictures_in n ps e none bare)
    ∙ same_with images e d (set e refl)

no_images : (ps : List (Option Picture)) (d : Data) → NoPictures ps → NoUris (items_at images d)
    → ((e : Data) → get images d ≡ Some e → IsSet images e d)
    → with_some images (images_after ps d) d ≡ d
no_images [] d none bare set = refl
no_images (p ∷ ps) d none bare set =
    no_images_at (count_at (codes "bufferViews") d) (p ∷ ps) d (get images d) none bare refl set

embedded_none : (ps : List (Option Picture)) (d : Data) → NoPictures ps
    → NoUris (items_at images d) → ((e : Data) → get images d ≡ Some e → IsSet images e d)
    → embedded ps d ≡ d
embedded_none ps d none bare set =
    let one : with_some (codes "buffers") (list_after (codes "buffers") (buffers_of ps) d) d ≡ d =
    ap (λ (ds : Items). with_some (codes "buffers") (list_after (codes "buffers") ds d) d)
    (no_buffers ps none) in
    let list = list_after (codes "bufferViews") (views_of (count_at (codes "buffers") d) ps) d in
    let two : with_some (codes "bufferViews") list d ≡ d =
    ap (λ (ds : Items). with_some (codes "bufferViews") (list_after (codes "bufferViews") ds d) d)
    (no_views (count_at (codes "buffers") d) ps none) in
    ap (λ (x : Data).
    with_some images (images_after ps d) (with_some (codes "bufferViews") list x)) one
    ∙ ap (λ (x : Data). with_some images (images_after ps d) x) two
    ∙ no_images ps d none bare set

-- ---- one buffer

whole_filled : (bytes : List ℕ) → length bytes % 8 ≡ 0 → filled bytes ≡ bytes
unfolding filled
whole_filled bytes whole =
    let none : (8 - length bytes % 8) % 8 ≡ 0 = omega (arith, whole) in
    ap (λ (n : ℕ). bytes ++ replicate n 0) none ∙ append-nil bytes

joined_one : (bytes : List ℕ) → length bytes % 8 ≡ 0 → joined (bytes ∷ []) ≡ bytes
unfolding joined
joined_one bytes whole = append-nil (filled bytes) ∙ whole_filled bytes whole

blob_again : (all : List (List ℕ)) → blob_of (one_list all) ≡ blob_of all
blob_again [] = refl
blob_again (x ∷ xs) =
    ap (λ (b : List ℕ). Some b) (joined_one (joined (x ∷ xs)) (joined_whole (x ∷ xs)))

pub total_again : (all : List (List ℕ)) → length (joined (one_list all)) ≡ length (joined all)
total_again [] = refl
total_again (x ∷ xs) =
    ap (λ (b : List ℕ). length b) (joined_one (joined (x ∷ xs)) (joined_whole (x ∷ xs)))

pub nowhere : (o : Option ℕ) (s : Span)
    → option_and_then (slice_get (spans_from 0 [])) o ≡ Some s → ⊥
unfolding spans_from
nowhere None s there = cc
nowhere (Some zero) s there = cc
nowhere (Some (suc i)) s there = cc

pub first_of_one : (x : List ℕ) (xs : List (List ℕ)) → IsFirst (spans_from 0 (one_list (x ∷ xs)))
unfolding spans_from
first_of_one x xs =
    record { first = span 0 (length (joined (x ∷ xs))); there = refl; begins = refl }

first_at : (all : List (List ℕ)) (o : Option ℕ) (s : Span)
    → option_and_then (slice_get (spans_from 0 all)) o ≡ Some s
    → IsFirst (spans_from 0 (one_list all))
first_at [] o s there = absurd (nowhere o s there)
first_at (x ∷ xs) o s there = first_of_one x xs

-- ---- the whole

pub of_some : {x y : List ℕ} → ◌≡◌ {A = Option (List ℕ)} (Some x) (Some y) → x ≡ y
of_some same = cc

pub same_data : {x y : Data} → ◌≡◌ {A = Option Data} (Some x) (Some y) → x ≡ y
same_data same = cc

never : {x : Data} → ◌≡◌ {A = Option Data} None (Some x) → ⊥
never same = cc

abbrev source_read : (required : Required) (names : Names) (path : List ℕ) (value : Data)
    (r : Root) (buffers : List (List ℕ)) (source : IsSource required names path value r buffers)
    → IsRead required names source.bytes r buffers
source_read required names path value r buffers source = record {
  blob = source.blob;
  document = record {
    text = source.text;
    value = value;
    parts = source.parts;
    reads = source.reads;
    records = source.records;
  };
  data_ = source.data_;
}

-- a list of images that came in the place of another is set
images_set : (two : Data) (f : Data → Data) (o : Option Data) (e : Data) → option_map f o ≡ Some e
    → IsSet images e (with_some images (option_map f o) two)
images_set two f None e is = absurd (never is)
images_set two f (Some x) e is =
    subst (λ (y : Data). IsSet images y (with_member images (f x) two)) (same_data is)
    (set_with images (f x) two)

-- nothing is taken in
pub record IsNothing (ps : List (Option Picture)) (taken : List (List ℕ)) (d : Data) : Type 0 where
  pub pictures : embedded ps d ≡ d
  pub taken_is : taken ≡ []

module _ (one : OneTextAndBlob) (back : ReadsBack) (spaces : SpacesBehind)
    (required : Required) (names : Names) (path : List ℕ) (keep : Keep) (answer : List ℕ)
    (is : IsBundle required names path keep answer)
    (from : Named → Option (List ℕ)) (other : List ℕ) (held : from (File other) ≡ Some answer)
    (requires : Required) (value : Data) (r : Root) (buffers : List (List ℕ))
    (source : IsSource requires (Held from) other value r buffers) where
  abbrev pub all : List (List ℕ)
  all = is.buffers ++ is.images

  abbrev pub between : Data
  between = embedded is.pictures is.value

  abbrev pub edited : Data
  edited = moved_value all is.pictures is.value

  pub bytes_are : source.bytes ≡ answer
  bytes_are = of_some (sym source.gives ∙ held)

  abbrev accepted : IsRead requires (Held from) source.bytes r buffers
  accepted = source_read requires (Held from) other value r buffers source

  -- the same answer, by the bytes that the source has
  abbrev same_is : IsBundle required names path keep source.bytes
  same_is = record {
    value = is.value;
    root_ = is.root_;
    buffers = is.buffers;
    images = is.images;
    pictures = is.pictures;
    lost = is.lost;
    gathered = is.gathered;
    placed = is.placed;
    short = is.short;
    json = is.json;
    reads = is.reads;
    compact = is.compact;
    fits = is.fits;
    written = bytes_are ∙ is.written;
  }

  pub value_is : value ≡ edited
  value_is =
      the_value one back spaces required names path keep source.bytes same_is requires (Held from) r
      buffers accepted

  pub buffers_are : buffers ≡ one_list all
  buffers_are =
      the_buffers one back spaces required names path keep source.bytes same_is requires (Held from)
      r buffers accepted

  pub is_object : IsSome (as_object is.value)
  unfolding root
  is_object = object_read required is.value is.gathered.source.records.0

  -- the images of the container
  images_at : (qs : List (Option Picture)) → is.pictures ≡ qs
      → get images edited ≡ over names (count_at (codes "bufferViews") is.value) qs
      (get images is.value)
  images_at qs same =
      bundled_other (spans_from 0 all) (length (joined all)) between images
      (differ images (codes "buffers") refl) (differ images (codes "bufferViews") refl)
      ∙ embedded_images is.pictures is.value is_object
      ∙ images_over names is.pictures is.value
      ∙ ap (λ (ps : List (Option Picture)).
      over names (count_at (codes "bufferViews") is.value) ps (get images is.value)) same

  abbrev WasTaken : Type 0
  WasTaken = AllTaken stay.Nothing names (items_at images is.value) is.pictures is.images is.lost

  -- none has a URI, where those that had one were taken in
  no_uri_left : (qs : List (Option Picture)) → is.pictures ≡ qs
      → AllTaken stay.Nothing names (items_at images is.value) qs is.images is.lost
      → NoUris (items_at images edited)
  no_uri_left [] same was =
      let none = items_none names (items_at images is.value) is.images is.lost was in
      let items : items_at images edited ≡ no_items =
      ap (λ (o : Option Data). unwrap_or (option_and_then as_array o) no_items)
      (images_at [] same)
      ∙ none in
      subst NoUris (sym items) tt
  no_uri_left (p ∷ qs) same was =
      let n = count_at (codes "bufferViews") is.value in
      subst (λ (o : Option Data). NoUris (unwrap_or (option_and_then as_array o) no_items))
      (sym (images_at (p ∷ qs) same))
      (over_no_uris names n p qs is.images is.lost (get images is.value) was)

  pub without_uris : (k : Keep) → keep ≡ k → k ≡ stay.Nothing → NoUris (items_at images edited)
  without_uris stay.Nothing keep_is nothing =
      no_uri_left is.pictures refl
      (subst (λ (k : Keep). AreTaken k names is.value is.pictures is.images is.lost) keep_is
      is.gathered.taken)
  without_uris stay.Missing keep_is nothing = absurd (no_missing nothing)
  without_uris stay.Every keep_is nothing = absurd (no_every nothing)

  -- ---- with what is taken in of it

  module _ (kept : Keep) (ps : List (Option Picture)) (taken : List (List ℕ)) (lost : List Named)
      (are : AreTaken kept (Held from) value ps taken lost) where
    abbrev Nothing : Type 0
    Nothing = IsNothing ps taken edited

    -- images that are kept
    kept_nothing : (ps ≡ []) × (taken ≡ []) → Nothing
    kept_nothing none = record {
      pictures = ap (λ (qs : List (Option Picture)). embedded qs edited) none.0;
      taken_is = none.1;
    }

    abbrev TakenAgain : Keep → Type 0
    TakenAgain k = AllTaken k (Held from) (items_at images edited) ps taken lost

    -- images that were taken in
    taken_nothing : (k : Keep) (qs : List (Option Picture)) → is.pictures ≡ qs
        → AllTaken stay.Nothing names (items_at images is.value) qs is.images is.lost
        → TakenAgain k → Nothing
    taken_nothing k [] same was more =
        let none = items_none names (items_at images is.value) is.images is.lost was in
        let items : items_at images edited ≡ no_items =
        ap (λ (o : Option Data). unwrap_or (option_and_then as_array o) no_items)
        (images_at [] same)
        ∙ none in
        kept_nothing (empty_taken (Held from) k (items_at images edited) ps taken lost items more)
    taken_nothing k (p ∷ qs) same was more =
        let n = count_at (codes "bufferViews") is.value in
        let f = pictured_in n (p ∷ qs) in
        let at = images_at (p ∷ qs) same in
        let without = no_uri_left (p ∷ qs) same was in
        let none = none_taken (Held from) k (items_at images edited) ps taken lost without more in
        record {
          pictures =
              embedded_none ps edited none.0 without
              (λ e there.
              kept_bundled (spans_from 0 all) (length (joined all)) between images e
              (differ images (codes "buffers") refl) (differ images (codes "bufferViews") refl)
              (set_in (p ∷ qs) same f refl e (sym at ∙ there)));
          taken_is = none.1;
        } where
          set_in : (qs : List (Option Picture)) → is.pictures ≡ qs → (g : Data → Data)
              → images_after qs is.value ≡ option_map g (get images is.value) → (e : Data)
              → option_map g (get images is.value) ≡ Some e → IsSet images e between
          set_in qs same g after e there =
              let list_of = λ (rs : List (Option Picture)).
              with_some (codes "bufferViews")
              (list_after (codes "bufferViews")
              (views_of (count_at (codes "buffers") is.value) rs) is.value)
              (with_some (codes "buffers")
              (list_after (codes "buffers") (buffers_of rs) is.value) is.value)
              in
              subst (λ (rs : List (Option Picture)). IsSet images e (embedded rs is.value))
              (sym same)
              (subst (λ (o : Option Data). IsSet images e (with_some images o (list_of qs)))
              (sym after)
              (images_set (list_of qs) g (get images is.value) e there))

    again_taken : (k : Keep) → AreTaken k (Held from) edited ps taken lost → WasTaken → Nothing
    again_taken stay.Every more was = kept_nothing (more.0, more.1)
    again_taken stay.Missing more was = taken_nothing stay.Missing is.pictures refl was more
    again_taken stay.Nothing more was = taken_nothing stay.Nothing is.pictures refl was more

    -- all stay, where some could
    stays_again : kept ≡ stay.Every → Nothing
    stays_again every =
        let more = subst (λ (k : Keep). AreTaken k (Held from) value ps taken lost) every are in
        kept_nothing (more.0, more.1)

    is_nothing : (k : Keep) → keep ≡ k → (keep ≢ stay.Nothing → kept ≡ stay.Every)
        → AreTaken k names is.value is.pictures is.images is.lost
        → AreTaken kept (Held from) edited ps taken lost → Nothing
    is_nothing stay.Nothing nothing only was more = again_taken kept more was
    is_nothing stay.Missing keep_is only was more =
        stays_again (only (λ same. no_missing (sym keep_is ∙ same)))
    is_nothing stay.Every keep_is only was more =
        stays_again (only (λ same. no_every (sym keep_is ∙ same)))

    pub nothing : (keep ≢ stay.Nothing → kept ≡ stay.Every) → Nothing
    nothing only =
        is_nothing keep refl only is.gathered.taken
        (subst (λ (d : Data). AreTaken kept (Held from) d ps taken lost) value_is are)

    pub all_again : Nothing → buffers ++ taken ≡ one_list all
    all_again none =
        ap (λ (xs : List (List ℕ)). xs ++ taken) buffers_are
        ∙ ap (λ (xs : List (List ℕ)). one_list all ++ xs) none.taken_is
        ∙ append-nil (one_list all)

    pub embedded_again : Nothing → embedded ps value ≡ edited
    embedded_again none = ap (λ (d : Data). embedded ps d) value_is ∙ none.pictures

    pub value_again : Nothing → moved_value (buffers ++ taken) ps value ≡ edited
    value_again none =
        ap (λ (xs : List (List ℕ)). moved_value xs ps value) (all_again none)
        ∙ ap (λ (d : Data).
        bundled (spans_from 0 (one_list all)) (length (joined (one_list all))) d)
        (embedded_again none)
        ∙ ap (λ (n : ℕ). bundled (spans_from 0 (one_list all)) n edited) (total_again all)
        ∙ bundled_again (spans_from 0 all) (spans_from 0 (one_list all))
        (λ d s there. first_at all (size_at (codes "buffer") d) s there) (length (joined all))
        between
        (object_embedded is.pictures is.value is_object) is.placed

    pub blob_is : Nothing → blob_of (buffers ++ taken) ≡ blob_of all
    blob_is none = ap (λ (xs : List (List ℕ)). blob_of xs) (all_again none) ∙ blob_again all

    -- where the value has no float, there is one text of it
    pub text_again : Nothing → has_float edited ≡ false → (json : List ℕ)
        → IsCompact (moved_value (buffers ++ taken) ps value) json → json ≡ is.json
    text_again none whole json compact =
        let v = value_again none in
        compact.text (ap has_float v ∙ whole) ∙ ap compact_text v ∙ sym (is.compact.text whole)

module _ (one : OneTextAndBlob) (back : ReadsBack) (spaces : SpacesBehind)
    (required : Required) (names : Names) (path : List ℕ) (keep : Keep) (answer : List ℕ)
    (is : IsBundle required names path keep answer)
    (from : Named → Option (List ℕ)) (other : List ℕ) (held : from (File other) ≡ Some answer)
    (kept : Keep) (requires : Required) (again : List ℕ)
    (more : IsBundle requires (Held from) other kept again) where
  the_same : (keep ≢ stay.Nothing → kept ≡ stay.Every) → IsTheSame is more
  the_same only =
      let source = more.gathered.source in
      let are = more.gathered.taken in
      let none = nothing one back spaces required names path keep answer is from other held requires
      more.value more.root_ more.buffers source kept more.pictures more.images more.lost are only in
      let blob = blob_is one back spaces required names path keep answer is from other held requires
      more.value more.root_ more.buffers source kept more.pictures more.images more.lost are none in
      record {
        value =
            value_again one back spaces required names path keep answer is from other held requires
            more.value more.root_ more.buffers source kept more.pictures more.images more.lost are
            none;
        blob = blob;
        bytes =
            λ whole.
            more.written
            ∙ ap (λ (t : List ℕ). container_bytes t (blob_of (more.buffers ++ more.images)))
            (text_again one back spaces required names path keep answer is from other held requires
            more.value more.root_ more.buffers source kept more.pictures more.images more.lost are
            none whole more.json more.compact)
            ∙ ap (λ (b : Option (List ℕ)). container_bytes is.json b) blob
            ∙ sym is.written;
      }

pub bundles_again : OneTextAndBlob → ReadsBack → SpacesBehind → BundlesAgain
bundles_again one back spaces required names path keep answer is from other held kept only requires
    again more =
    the_same one back spaces required names path keep answer is from other held kept requires again
    more only
