-- No image of a document has a URI once all that have one are taken in.
use Rattle.std.proofs.Common.{◌≡◌, ℕ, ◌+◌, List, [], ◌∷◌, Option, Some, None, refl, sym, ap, subst}
use Rattle.std.proofs.Common.{codes, unwrap_or, option_map, String, Global}
use Rattle.std.proofs.lemmas.List.Elements.{All-nil, All-cons}
use Rattle.std.specs.Prelude.{MatchOption, option_and_then, All, string_bytes}
use Rattle.serde_json.specs.Data.{Data, null, boolean, number, string, array, object, Items}
use Rattle.serde_json.specs.Data.{no_items, item}
use Rattle.serde_json.specs.Find.{get, as_array, as_str}
use Rattle.gltf_json_record.specs.Items.{AllRead}
use Rattle.gltf_json_record.specs.Member.{unless_null}
use Rattle.gltf_json_scene.specs.Images.{image}
use Rattle.gltf_json_scene.specs.declared.image.Image.{Image}
use Rattle.gltf_edit.specs.Embedded.{pictured, pictured_in, shown, with_picture, seats, sole}
use Rattle.gltf_edit.specs.Embedded.{images_after}
use Rattle.gltf_edit.specs.Embedded.{count_at}
use Rattle.gltf_edit.specs.EmbeddedLaws.{no_uri, instead, sole_no_uri}
use Rattle.gltf_edit.specs.declared.picture.Picture.{Picture}
use Rattle.gltf_names.specs.Named.{Named}
use Rattle.gltf_buffers.specs.Names.{Names}
use Rattle.gltf_bundle.specs.Images.{AllTaken, Takes}
use Rattle.gltf_bundle.specs.declared.options.Keep.TheVariants.{Nothing}

abbrev pub ReadsImages : Option Data → List Image → Type 0
ReadsImages o is = MatchOption (option_and_then unless_null o) (is ≡ [])
    (λ e. MatchOption (as_array e) ⊥ (λ ds. AllRead image.is ds is))

-- the member `uri` of an image
abbrev ReadsUri : Option Data → Option (String Global) → Type 0
ReadsUri o uri = MatchOption (option_and_then unless_null o) (uri ≡ None)
    (λ e. MatchOption uri ⊥ (λ t. as_str e ≡ Some (string_bytes t)))

-- what is no text is not read as one
no_text : (e : Data) (uri : Option (String Global)) → as_str e ≡ None
    → MatchOption uri ⊥ (λ t. as_str e ≡ Some (string_bytes t)) → uri ≡ None
no_text e None isnt is = absurd is
no_text e (Some t) isnt is = cc

without_text : (o : Option Data) (uri : Option (String Global)) → option_and_then as_str o ≡ None
    → ReadsUri o uri → uri ≡ None
without_text None uri none is = is
without_text (Some null) uri none is = is
without_text (Some (boolean b)) uri none is = no_text (boolean b) uri refl is
without_text (Some (number n)) uri none is = no_text (number n) uri refl is
without_text (Some (string s)) uri none is = cc
without_text (Some (array ds)) uri none is = no_text (array ds) uri refl is
without_text (Some (object ms)) uri none is = no_text (object ms) uri refl is

module _ (names : Names) where
  one_without : (n : ℕ) (p : Option Picture) (d : Data) (one : List (List ℕ)) (lost : List Named)
      (x : Image) → Takes Nothing names d p one lost → image.is (shown n p d) x → x.uri ≡ None
  unfolding image
  one_without n None d one lost x takes is =
      without_text (get (codes "uri") (sole d)) x.uri (sole_no_uri d takes.0.none) is.1.1.1.0
  one_without n (Some p) d one lost x takes is =
      without_text (get (codes "uri") (with_picture n p d)) x.uri
      (ap (option_and_then as_str) (no_uri n p d)) is.1.1.1.0

  each_without : (n : ℕ) (ds : Items) (ps : List (Option Picture)) (taken : List (List ℕ))
      (lost : List Named) (xs : List Image) → AllTaken Nothing names ds ps taken lost
      → AllRead image.is (pictured n ps ds) xs → All (λ i. i.uri ≡ None) xs
  each_without n no_items ps taken lost [] all is = All-nil _
  each_without n no_items ps taken lost (x ∷ xs) all is = absurd is
  each_without n (item d ds) [] taken lost xs all is = absurd all
  each_without n (item d ds) (p ∷ ps) taken lost [] all is = absurd is
  each_without n (item d ds) (p ∷ ps) taken lost (x ∷ xs)
      (one, more, was, behind, first, rest, whole, lost_is) is =
      All-cons (λ (i : Image). i.uri ≡ None) x xs (one_without n p d one was x first is.0)
      (each_without (n + seats p) ds ps more behind xs rest is.1)

  none_without : (xs : List Image) → xs ≡ [] → All (λ i. i.uri ≡ None) xs
  none_without xs none = subst (All (λ (i : Image). i.uri ≡ None)) (sym none) (All-nil _)

  -- the list of images with their pictures
  abbrev pub over : ℕ → List (Option Picture) → Option Data → Option Data
  over n [] o = o
  over n (p ∷ ps) o = option_map (pictured_in n (p ∷ ps)) o

  nothing_taken : (ds : Items) (taken : List (List ℕ)) (lost : List Named)
      → AllTaken Nothing names ds [] taken lost → ds ≡ no_items
  nothing_taken no_items taken lost all = refl
  nothing_taken (item d ds) taken lost all = absurd all

  pub no_uris : (o : Option Data) (ps : List (Option Picture)) (n : ℕ) (taken : List (List ℕ))
      (lost : List Named) (xs : List Image)
      → AllTaken Nothing names (unwrap_or (option_and_then as_array o) no_items) ps taken lost
      → ReadsImages (over n ps o) xs → All (λ i. i.uri ≡ None) xs
  no_uris None [] n taken lost xs all is = none_without xs is
  no_uris None (p ∷ ps) n taken lost xs all is = none_without xs is
  no_uris (Some null) [] n taken lost xs all is = none_without xs is
  no_uris (Some null) (p ∷ ps) n taken lost xs all is = none_without xs is
  no_uris (Some (boolean b)) [] n taken lost xs all is = absurd is
  no_uris (Some (boolean b)) (p ∷ ps) n taken lost xs all is = absurd is
  no_uris (Some (number x)) [] n taken lost xs all is = absurd is
  no_uris (Some (number x)) (p ∷ ps) n taken lost xs all is = absurd is
  no_uris (Some (string s)) [] n taken lost xs all is = absurd is
  no_uris (Some (string s)) (p ∷ ps) n taken lost xs all is = absurd is
  no_uris (Some (array ds)) [] n taken lost xs all is =
      each_without n no_items [] [] [] xs (refl, refl)
      (subst (λ ds. AllRead image.is ds xs) (nothing_taken ds taken lost all) is)
  no_uris (Some (array ds)) (p ∷ ps) n taken lost xs all is =
      each_without n ds (p ∷ ps) taken lost xs all is
  no_uris (Some (object ms)) [] n taken lost xs all is = absurd is
  no_uris (Some (object ms)) (p ∷ ps) n taken lost xs all is = absurd is

  there : (n : ℕ) (p : Option Picture) (ps : List (Option Picture)) (o : Option Data)
      → instead (option_map (pictured_in n (p ∷ ps)) o) o ≡ over n (p ∷ ps) o
  there n p ps None = refl
  there n p ps (Some e) = refl

  pub images_over : (ps : List (Option Picture)) (d : Data)
      → instead (images_after ps d) (get (codes "images") d)
      ≡ over (count_at (codes "bufferViews") d) ps (get (codes "images") d)
  images_over [] d = refl
  images_over (p ∷ ps) d =
      there (count_at (codes "bufferViews") d) p ps (get (codes "images") d)
