-- An image of the file that has a URI, in the container.
use Rattle.std.proofs.Common.{◌≡◌, ℕ, zero, suc, ◌+◌, List, [], ◌∷◌, ◌++◌, Option, Some, None}
use Rattle.std.proofs.Common.{refl, sym, ap, subst, ◌∙◌, arith, codes, unwrap_or, option_map}
use Rattle.std.proofs.Common.{string_bytes, Ok}
use Rattle.std.specs.Prelude.{option_and_then, slice_get}
use Rattle.serde_json.specs.Data.{Data, Items, no_items, item}
use Rattle.serde_json.specs.Find.{get, get_item, as_array}
use Rattle.gltf_json.specs.Documents.{root}
use Rattle.gltf_json_scene.specs.Images.{image}
use Rattle.gltf_json_scene.specs.declared.image.Image.{Image}
use Rattle.gltf_edit.specs.Bundled.{size_at}
use Rattle.gltf_edit.specs.Embedded.{seats, own_uri, own_uri_at}
use Rattle.gltf_edit.specs.declared.picture.Picture.{Picture}
use Rattle.gltf_mended.specs.Edited.{images_left}
use Rattle.gltf_required.specs.Read.{get_read}
use Rattle.gltf_moved.specs.Images.{IsInView, ShowsImages as MovedShows, seats_before}
use Rattle.gltf_moved.specs.RowLaws.{ReadsList, optional_index, comes_from}
use Rattle.gltf_glb.specs.Laws.{ReadsBack}
use Rattle.gltf.specs.Laws.{OneTextAndBlob}
use Rattle.gltf_pack.specs.Laws.{SpacesBehind}
use Rattle.gltf_buffers.specs.Buffers.{IsMeant}
use Rattle.gltf_buffers.specs.Names.{Names}
use Rattle.gltf_buffers.specs.Uri.{uri_of}
use Rattle.gltf_bundle.specs.Images.{AllTaken, Takes, IsTaken, text_at}
use Rattle.gltf_bundle.specs.Laws.{ShowsImages}
use Rattle.gltf_bundle.specs.declared.options.Keep.TheVariants.{Nothing}
use Rattle.gltf_names.specs.Named.{Named}
use Rattle.gltf_bundle.specs.Media.{media_of}
use Rattle.gltf_bundle.specs.TextLaws.{text_read}
use Rattle.gltf_bundle.proofs.Imported.{is_moved, the_buffers}

-- ---- its texts

uri_read : (e : Data) (x : Image) → image.is e x
    → text_at (codes "uri") e ≡ option_map string_bytes x.uri
unfolding image
uri_read e x is = text_read (get (codes "uri") e) x.uri is.1.1.1.0

-- the view that it names
pub view_read : (e : Data) (x : Image) → image.is e x
    → size_at (codes "bufferView") e ≡ x.buffer_view
unfolding image
view_read e x is = optional_index (codes "bufferView") e x.buffer_view is.1.0

-- the URI by which it is read
own_read : (e : Data) (x : Image) → image.is e x → x.buffer_view ≡ None
    → own_uri e ≡ option_map string_bytes x.uri
own_read e x is none =
    ap (λ (v : Option ℕ). own_uri_at v (text_at (codes "uri") e)) (view_read e x is ∙ none)
    ∙ uri_read e x is

type_read : (e : Data) (x : Image) → image.is e x
    → text_at (codes "mimeType") e ≡ option_map string_bytes x.mime_type
unfolding image
type_read e x is = text_read (get (codes "mimeType") e) x.mime_type is.1.1.0

-- ---- what is taken in of it

record TakenAt (names : Names) (e : Data) (ps : List (Option Picture)) (taken : List (List ℕ))
    (i : ℕ) : Type 0 where
  picture : Picture
  has : slice_get ps i ≡ Some (Some picture)
  bytes : List ℕ
  given : slice_get taken (seats_before i ps) ≡ Some bytes
  is_taken : IsTaken names e picture bytes

module _ (names : Names) (e : Data) (uri : List ℕ)
    (with_uri : own_uri e ≡ Some uri) where
  here : (p : Option Picture) (ps : List (Option Picture)) (one more taken : List (List ℕ))
      (lost : List Named) → Takes Nothing names e p one lost → taken ≡ one ++ more
      → TakenAt names e (p ∷ ps) taken 0
  here None ps one more taken lost takes is = let none = takes.0.none in cc
  here (Some p) ps one more taken lost takes is =
      record {
        picture = p;
        has = refl;
        bytes = takes.0;
        given =
            ap (λ (xs : List (List ℕ)). slice_get xs 0) is
            ∙ ap (λ (xs : List (List ℕ)). slice_get (xs ++ more) 0) takes.2;
        is_taken = takes.1;
      }

  seat : (d : Data) (p : Option Picture) (one more : List (List ℕ)) (lost : List Named) (k : ℕ)
      → Takes Nothing names d p one lost
      → slice_get (one ++ more) (seats p + k) ≡ slice_get more k
  seat d None one more lost k takes =
      ap (λ (xs : List (List ℕ)). slice_get (xs ++ more) (0 + k)) takes.1
      ∙ ap (slice_get more) (omega arith)
  seat d (Some p) one more lost k takes =
      let next : 1 + k ≡ suc k = omega arith in
      ap (λ (xs : List (List ℕ)). slice_get (xs ++ more) (1 + k)) takes.2
      ∙ ap (slice_get (takes.0 ∷ more)) next

  taken_at : (ds : Items) (ps : List (Option Picture)) (taken : List (List ℕ)) (lost : List Named)
      (i : ℕ) → AllTaken Nothing names ds ps taken lost → get_item i ds ≡ Some e
      → TakenAt names e ps taken i
  taken_at no_items ps taken lost i all there = cc
  taken_at (item d ds) [] taken lost i all there = absurd all
  taken_at (item d ds) (p ∷ ps) taken lost zero
      (one, more, was, behind, first, rest, is, lost_is) there =
      let same : d ≡ e = cc in
      here p ps one more taken was (subst (λ d. Takes Nothing names d p one was) same first) is
  taken_at (item d ds) (p ∷ ps) taken lost (suc i)
      (one, more, was, behind, first, rest, is, lost_is) there =
      let later = taken_at ds ps more behind i rest there in
      record {
        picture = later.picture;
        has = later.has;
        bytes = later.bytes;
        given =
            ap (λ (xs : List (List ℕ)). slice_get xs (seats p + seats_before i ps)) is
            ∙ seat d p one more was (seats_before i ps) first ∙ later.given;
        is_taken = later.is_taken;
      }

of_some : {x y : List ℕ} → ◌≡◌ {A = Option (List ℕ)} (Some x) (Some y) → x ≡ y
of_some same = cc

-- ---- in the container

pub shows_images : OneTextAndBlob → ReadsBack → SpacesBehind → MovedShows → ShowsImages
unfolding root
shows_images one back spaces law required names path answer is reading alike over s others accepted
    i x there uri with_uri no_view_named =
    let value = is.value in
    let source = is.gathered.source in
    let kept = get_read required (codes "images") images_left value in
    let read = comes_from image.is (get (codes "images") value) is.root_.images.items i x
    (subst (λ o. ReadsList image.is o is.root_.images.items) kept
    source.records.1.1.1.1.1.1.1.0) there in
    let e = read.from in
    let text = own_read e x read.reads no_view_named ∙ with_uri in
    let found = taken_at names e uri text
    (unwrap_or (option_and_then as_array (get (codes "images") value)) no_items) is.pictures
    is.images is.lost i is.gathered.taken read.listed in
    let picture = found.is_taken in
    let same : picture.uri ≡ uri = of_some (sym picture.there ∙ text) in
    let moved = is_moved one back spaces required names path Nothing answer is reading over s others
    accepted alike in
    let here = ap (λ (o : Option Data).
    get_item i (unwrap_or (option_and_then as_array o) no_items)) kept ∙ read.listed in
    let view = law is.buffers is.images is.root_ s moved i e here found.picture found.has
    found.bytes
    found.given picture.long in
    record {
      bytes = found.bytes;
      media = string_bytes found.picture.media;
      meant = subst (λ (u : List ℕ). IsMeant names (uri_of u) (Ok found.bytes)) same picture.meant;
      is_media =
          ap (λ (o : Option (List ℕ)). media_of uri o found.bytes) (sym (type_read e x read.reads))
          ∙ ap (λ (u : List ℕ). media_of u (text_at (codes "mimeType") e) found.bytes) (sym same)
          ∙ picture.media;
      in_view =
          subst (λ (bs : List (List ℕ)). IsInView bs s i
          (string_bytes found.picture.media) found.bytes)
          (sym (the_buffers one back spaces required names path Nothing answer is reading over s
          others accepted))
          view;
    }
