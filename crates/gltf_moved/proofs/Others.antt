-- The images of a document that did not go into buffers of their own.
use Rattle.std.proofs.Common.{◌≡◌, ℕ, zero, suc, ◌+◌, List, [], ◌∷◌, ◌++◌, length, Option, Some}
use Rattle.std.proofs.Common.{None, refl, sym, ap, subst, ◌∙◌, codes, String, Global}
use Rattle.std.proofs.Common.{option_map, string_bytes}
use Rattle.std.specs.Option.{is_some}
use Rattle.std.specs.Prelude.{IsSome, slice_get, option_and_then, MatchOption, ◌&&◌}
use Rattle.serde_json.specs.Data.{Data, null, boolean, number, string, array, object}
use Rattle.serde_json.specs.Data.{Items, no_items, item}
use Rattle.serde_json.specs.Find.{get, get_item, as_object, as_str}
use Rattle.gltf_json.specs.Documents.{root}
use Rattle.gltf_json_record.specs.Kind.{Kind}
use Rattle.gltf_json_record.specs.Extensions.{others_only}
use Rattle.gltf_json_record.specs.Member.{unless_null}
use Rattle.gltf_json_record.specs.Scalars.{text, index, any}
use Rattle.gltf_json_record.specs.Table.{optional}
use Rattle.gltf_json_scene.specs.Images.{image}
use Rattle.gltf_json_scene.specs.declared.image.Image.{Image}
use Rattle.gltf_edit.specs.Joined.{joined, spans_from}
use Rattle.gltf_edit.specs.BundledLaws.{differ, bundled_other}
use Rattle.gltf_edit.specs.Bundled.{size_at}
use Rattle.gltf_edit.specs.Embedded.{embedded, pictured, seats, count_at, without_member, text_at}
use Rattle.gltf_edit.specs.Embedded.{sole, sole_if}
use Rattle.gltf_edit.specs.EmbeddedLaws.{instead, embedded_images, get_without, get_without_other}
use Rattle.gltf_edit.specs.declared.picture.Picture.{Picture}
use Rattle.gltf_moved.specs.Images.{picture_at, own_uri, left, KeepsImages}
use Rattle.gltf_moved.proofs.Images.{ReadAt, read_at, ReadsImages, images_at, images_at_of}
use Rattle.gltf_moved.specs.RowLaws.{optional_index, comes_from}

-- an item without a picture has no URI beside a view
bare_at : (n : ℕ) (ps : List (Option Picture)) (ds : Items) (i : ℕ) (e : Data)
    → picture_at i ps ≡ None → get_item i ds ≡ Some e
    → get_item i (pictured n ps ds) ≡ Some (sole e)
bare_at n ps no_items i e none there = cc
bare_at n [] (item d ds) zero e none there =
    let same : d ≡ e = cc in ap (λ d. Some (sole d)) same
bare_at n [] (item d ds) (suc i) e none there = bare_at (n + 0) [] ds i e none there
bare_at n (None ∷ ps) (item d ds) zero e none there =
    let same : d ≡ e = cc in ap (λ d. Some (sole d)) same
bare_at n (Some p ∷ ps) (item d ds) zero e none there = cc
bare_at n (q ∷ ps) (item d ds) (suc i) e none there =
    bare_at (n + seats q) ps ds i e none there

-- ---- what is read of it

-- a text that may be absent
text_there : (e : Data) (f : Option (String Global))
    → MatchOption f ⊥ (λ t. as_str e ≡ Some (string_bytes t)) → as_str e ≡ option_map string_bytes f
text_there e None is = absurd is
text_there e (Some t) is = is

text_read : (o : Option Data) (f : Option (String Global))
    → MatchOption (option_and_then unless_null o) (f ≡ None)
    (λ e. MatchOption f ⊥ (λ t. as_str e ≡ Some (string_bytes t)))
    → option_and_then as_str o ≡ option_map string_bytes f
text_read None f is = sym (ap (option_map string_bytes) is)
text_read (Some null) f is = sym (ap (option_map string_bytes) is)
text_read (Some (boolean b)) f is = text_there (boolean b) f is
text_read (Some (number n)) f is = text_there (number n) f is
text_read (Some (string s)) f is = text_there (string s) f is
text_read (Some (array ds)) f is = text_there (array ds) f is
text_read (Some (object ms)) f is = text_there (object ms) f is

-- a row of which the member is the same
row_stays : {R T : Type 0} (name : List ℕ) (field : R → Option T) (K : Kind T) (d e : Data)
    (r s : R) → get name d ≡ get name e → field s ≡ field r
    → (optional name field K).is e r → (optional name field K).is d s
row_stays name field K d e r s same kept is =
    subst (λ f. MatchOption (option_and_then unless_null (get name d)) (f ≡ None)
    (λ x. MatchOption f ⊥ (K.is x))) (sym kept)
    (subst (λ o. MatchOption (option_and_then unless_null o) (field r ≡ None)
    (λ x. MatchOption (field r) ⊥ (K.is x))) (sym same) is)

bare_object : (d : Data) → IsSome (as_object d)
    → IsSome (as_object (without_member (codes "uri") d))
bare_object null is = is
bare_object (boolean b) is = is
bare_object (number n) is = is
bare_object (string s) is = is
bare_object (array ds) is = is
bare_object (object ms) is = refl

module _ (e : Data) (x : Image) (is : image.is e x) where
  abbrev bare : Data
  bare = without_member (codes "uri") e

  abbrev without_uri : Image
  without_uri = record x { uri = None }

  other : (name : List ℕ) → (name ≡ codes "uri" → ⊥) → get name bare ≡ get name e
  other name apart = get_without_other name (codes "uri") e apart

  -- without its URI
  bare_reads : image.is bare without_uri
  unfolding image
  bare_reads = (
    bare_object e is.0,
    (
      row_stays (codes "bufferView") (λ r. r.buffer_view) index bare e x without_uri
          (other (codes "bufferView") (differ _ _ refl)) refl is.1.0,
      (
        row_stays (codes "mimeType") (λ r. r.mime_type) text bare e x without_uri
            (other (codes "mimeType") (differ _ _ refl)) refl is.1.1.0,
        (
          rw (get_without (codes "uri") e) refl,
          (
            row_stays (codes "name") (λ r. r.name) text bare e x without_uri
                (other (codes "name") (differ _ _ refl)) refl is.1.1.1.1.0,
            (
              row_stays (codes "extensions") (λ r. r.extensions) others_only bare e x
                  without_uri (other (codes "extensions") (differ _ _ refl)) refl is.1.1.1.1.1.0,
              row_stays (codes "extras") (λ r. r.extras) any bare e x without_uri
                  (other (codes "extras") (differ _ _ refl)) refl is.1.1.1.1.1.1,
            ),
          ),
        ),
      ),
    ),
  )

  names_view : size_at (codes "bufferView") e ≡ x.buffer_view
  unfolding image
  names_view = optional_index (codes "bufferView") e x.buffer_view is.1.0

  has_uri : text_at (codes "uri") e ≡ option_map string_bytes x.uri
  unfolding image
  has_uri = text_read (get (codes "uri") e) x.uri is.1.1.1.0

  -- without it where it names a view
  sole_reads_at : (view : Option ℕ) (uri : Option (String Global)) → x.buffer_view ≡ view
      → x.uri ≡ uri
      → image.is (sole_if (is_some (option_map string_bytes uri) && is_some view) e)
      (record x { uri = own_uri view uri })
  sole_reads_at None None names has =
      subst (λ (u : Option (String Global)). image.is e (record x { uri = u })) has is
  sole_reads_at None (Some u) names has =
      subst (λ (u : Option (String Global)). image.is e (record x { uri = u })) has is
  sole_reads_at (Some v) None names has =
      subst (λ (u : Option (String Global)). image.is e (record x { uri = u })) has is
  sole_reads_at (Some v) (Some u) names has = bare_reads

  sole_reads : image.is (sole e) (record x { uri = own_uri x.buffer_view x.uri })
  sole_reads =
      rw (names_view, has_uri) (sole_reads_at x.buffer_view x.uri refl refl)

-- what an item without a picture becomes
abbrev left_of : List (Option Picture) → Data → Data
left_of [] d = d
left_of (p ∷ ps) d = sole d

left_reads : (ps : List (Option Picture)) (e : Data) (x : Image) → image.is e x
    → image.is (left_of ps e) (left ps x)
left_reads [] e x is = is
left_reads (p ∷ ps) e x is = sole_reads e x is

-- both are read of one value
record BothRead (ps : List (Option Picture)) (x : Image) (ys : List Image) (i : ℕ) : Type 0 where
  value : Data
  before : image.is value x
  after : ReadAt image.is (left_of ps value) ys i

both_read : (o : Option Data) (ps : List (Option Picture)) (n : ℕ) (xs ys : List Image) (i : ℕ)
    (x : Image) → picture_at i ps ≡ None → slice_get xs i ≡ Some x → ReadsImages o xs
    → ReadsImages (instead (images_at ps n o) o) ys → BothRead ps x ys i
both_read None ps n xs ys i x none there before after =
    let empty : slice_get [] i ≡ Some x = subst (λ zs. slice_get zs i ≡ Some x) before there in cc
both_read (Some null) ps n xs ys i x none there before after =
    let empty : slice_get [] i ≡ Some x = subst (λ zs. slice_get zs i ≡ Some x) before there in cc
both_read (Some (boolean b)) ps n xs ys i x none there before after = absurd before
both_read (Some (number v)) ps n xs ys i x none there before after = absurd before
both_read (Some (string s)) ps n xs ys i x none there before after = absurd before
both_read (Some (array ds)) [] n xs ys i x none there before after =
    let one = comes_from image.is (Some (array ds)) xs i x before there in
    record {
      value = one.from;
      before = one.reads;
      after = read_at image.is ds ys i one.from after one.there;
    }
both_read (Some (array ds)) (q ∷ ps) n xs ys i x none there before after =
    let one = comes_from image.is (Some (array ds)) xs i x before there in
    record {
      value = one.from;
      before = one.reads;
      after =
          read_at image.is (pictured n (q ∷ ps) ds) ys i (sole one.from) after
          (bare_at n (q ∷ ps) ds i one.from none one.there);
    }
both_read (Some (object ms)) ps n xs ys i x none there before after = absurd before

-- ---- what is read of the two

same_view : (e : Data) (x y : Image) → image.is e x → image.is e y
    → y.buffer_view ≡ x.buffer_view
unfolding image
same_view e x y before after =
    sym (optional_index (codes "bufferView") e y.buffer_view after.1.0)
    ∙ optional_index (codes "bufferView") e x.buffer_view before.1.0

left_view : (ps : List (Option Picture)) (x : Image) → (left ps x).buffer_view ≡ x.buffer_view
left_view [] x = refl
left_view (p ∷ ps) x = refl

pub keeps_images : KeepsImages
unfolding root
keeps_images buffers images r s m i x there none =
    let all = buffers ++ images in
    let d = m.value in
    let ps = m.pictures in
    let spans = spans_from 0 all in
    let total = length (joined all) in
    let is_object : IsSome (as_object d) = m.before.0 in
    let both =
    both_read (get (codes "images") d) ps (count_at (codes "bufferViews") d) r.images.items
    s.images.items i x none there m.before.1.1.1.1.1.1.1.0
    (subst (λ o. ReadsImages o s.images.items)
    (bundled_other spans total (embedded ps d) (codes "images") (differ _ _ refl) (differ _ _ refl)
    ∙ embedded_images ps d is_object
    ∙ ap (λ o. instead o (get (codes "images") d)) (images_at_of ps d))
    m.after.1.1.1.1.1.1.1.0) in
    let reads = left_reads ps both.value x both.before in
    record {
      image_ = both.after.value;
      there = both.after.there;
      shows = image.alike (left_of ps both.value) both.after.value (left ps x) both.after.reads reads;
      view =
          same_view (left_of ps both.value) (left ps x) both.after.value reads both.after.reads
          ∙ left_view ps x;
    }
