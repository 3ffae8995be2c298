-- The images of a document that went into buffers of their own.
use Rattle.std.proofs.Common.{◌≡◌, ℕ, zero, suc, ◌+◌, ◌≤◌, List, [], ◌∷◌, ◌++◌, length, take}
use Rattle.std.proofs.Common.{drop, Option, Some, None, refl, sym, ap, subst, ◌∙◌, arith, codes}
use Rattle.std.proofs.Common.{unwrap_or, option_map, length-append, string_bytes, String, Global}
use Rattle.std.proofs.Math.Seq.{drop-append_seam, take-append_seam}
use Rattle.std.specs.Prelude.{MatchOption, IsSome, slice_get, option_and_then, ⊤}
use Rattle.serde_json.specs.Data.{Data, null, boolean, number, string, array, object}
use Rattle.serde_json.specs.Data.{Items, no_items, item}
use Rattle.serde_json.specs.Events.{items_len}
use Rattle.serde_json.specs.Find.{get, get_item, as_array, as_object, as_str}
use Rattle.gltf_json.specs.Documents.{root}
use Rattle.gltf_json_geometry.specs.Buffers.{buffer, buffer_view}
use Rattle.gltf_json_geometry.specs.declared.buffer.Buffer.{Buffer}
use Rattle.gltf_json_geometry.specs.declared.buffer.View.{View}
use Rattle.gltf_json_record.specs.Items.{AllRead}
use Rattle.gltf_json_record.specs.Member.{unless_null}
use Rattle.gltf_json_scene.specs.Images.{image}
use Rattle.gltf_json_scene.specs.declared.image.Image.{Image}
use Rattle.gltf_data.specs.Parts.{view_offset}
use Rattle.gltf_edit.specs.Joined.{joined, spans_from}
use Rattle.gltf_edit.specs.JoinedLaws.{stands}
use Rattle.gltf_edit.specs.Bundled.{Lies, LiesIn, AllPlaced, EachPlaced, moved, mapped}
use Rattle.gltf_edit.specs.Bundled.{span_of, each_item, with_member}
use Rattle.gltf_edit.specs.Bundled.{whole}
use Rattle.gltf_edit.specs.BundledLaws.{differ, moved_buffer, moved_offset, moved_other}
use Rattle.gltf_edit.specs.BundledLaws.{get_with, get_with_other, bundled_other}
use Rattle.gltf_edit.specs.Embedded.{embedded, with_items, with_picture, without_member, view_on}
use Rattle.gltf_edit.specs.Embedded.{views_of, pictured, pictured_in, shown, seats, first}
use Rattle.gltf_edit.specs.Embedded.{count_at, images_after}
use Rattle.gltf_edit.specs.EmbeddedLaws.{no_uri, instead, embedded_images, longer}
use Rattle.gltf_edit.specs.EmbeddedLaws.{longer_views, more_views}
use Rattle.gltf_edit.specs.declared.picture.Picture.{Picture}
use Rattle.gltf_edit.specs.declared.span.Span.{Span}
use Rattle.gltf_moved.specs.Images.{seats_before, ShowsImages}
use Rattle.gltf_moved.specs.Laws.{one_list}
use Rattle.gltf_moved.specs.RowLaws.{required_size, required_index, optional_size, optional_index}
use Rattle.gltf_moved.proofs.Views.{ReadsViews, views_after, size_of, size_is, of_some}

-- ---- items by index

past : (ds es : Items) (k : ℕ) → get_item (items_len ds + k) (with_items ds es) ≡ get_item k es
past no_items es k = ap (λ (n : ℕ). get_item n es) (omega arith)
past (item d ds) es k =
    let one : suc (items_len ds) + k ≡ suc (items_len ds + k) = omega arith in
    ap (λ (n : ℕ). get_item n (item d (with_items ds es))) one ∙ past ds es k

mapped_at : (f : Data → Data) (ds : Items) (j : ℕ) (e : Data) → get_item j ds ≡ Some e
    → get_item j (mapped f ds) ≡ Some (f e)
mapped_at f no_items j e there = cc
mapped_at f (item d ds) zero e there = cc
mapped_at f (item d ds) (suc j) e there = mapped_at f ds j e there

-- what is read at an index
pub record ReadAt {T : Type 0} (P : Data → T → Type 0) (e : Data) (xs : List T) (j : ℕ) : Type 0 where
  pub value : T
  pub there : slice_get xs j ≡ Some value
  pub reads : P e value

pub read_at : {T : Type 0} (P : Data → T → Type 0) (ds : Items) (xs : List T) (j : ℕ) (e : Data)
    → AllRead P ds xs → get_item j ds ≡ Some e → ReadAt P e xs j
read_at P no_items [] j e is there = cc
read_at P no_items (x ∷ xs) j e is there = absurd is
read_at P (item d ds) [] j e is there = absurd is
read_at P (item d ds) (x ∷ xs) zero e is there =
    let same : d ≡ e = cc in
    record { value = x; there = refl; reads = subst (λ d. P d x) same is.0 }
read_at P (item d ds) (x ∷ xs) (suc j) e is there =
    let later = read_at P ds xs j e is.1 there in
    record { value = later.value; there = later.there; reads = later.reads }

placed_at : (spans : List Span) (ds : Items) (j : ℕ) (e : Data) → AllPlaced spans ds
    → get_item j ds ≡ Some e → Lies spans e
placed_at spans no_items j e placed there = cc
placed_at spans (item d ds) zero e placed there =
    let same : d ≡ e = cc in subst (λ d. Lies spans d) same placed.0.alone
placed_at spans (item d ds) (suc j) e placed there = placed_at spans ds j e placed.1 there

-- ---- pictures by index

pictured_at : (n : ℕ) (ps : List (Option Picture)) (ds : Items) (i : ℕ) (p : Picture) (e : Data)
    → slice_get ps i ≡ Some (Some p) → get_item i ds ≡ Some e
    → get_item i (pictured n ps ds) ≡ Some (with_picture (n + seats_before i ps) p e)
pictured_at n [] ds i p e has there = cc
pictured_at n (q ∷ ps) no_items i p e has there = cc
pictured_at n (q ∷ ps) (item d ds) zero p e has there =
    let is : q ≡ Some p = cc in
    let same : d ≡ e = cc in
    let here : n ≡ n + 0 = omega arith in
    ap (λ q. Some (shown n q d)) is
    ∙ ap (λ (n : ℕ). Some (with_picture n p d)) here
    ∙ ap (λ d. Some (with_picture (n + 0) p d)) same
pictured_at n (q ∷ ps) (item d ds) (suc i) p e has there =
    let on : n + seats q + seats_before i ps ≡ n + (seats q + seats_before i ps) = omega arith in
    pictured_at (n + seats q) ps ds i p e has there
    ∙ ap (λ (n : ℕ). Some (with_picture n p e)) on

new_view_at : (b : ℕ) (ps : List (Option Picture)) (i : ℕ) (p : Picture)
    → slice_get ps i ≡ Some (Some p)
    → get_item (seats_before i ps) (views_of b ps) ≡ Some (view_on (b + seats_before i ps) p.length)
new_view_at b [] i p has = cc
new_view_at b (None ∷ ps) zero p has = cc
new_view_at b (None ∷ ps) (suc i) p has =
    let same : 0 + seats_before i ps ≡ seats_before i ps = omega arith in
    subst (λ (k : ℕ). get_item k (views_of b ps) ≡ Some (view_on (b + k) p.length)) (sym same)
    (new_view_at b ps i p has)
new_view_at b (Some q ∷ ps) zero p has =
    let same : q ≡ p = cc in
    let here : b ≡ b + 0 = omega arith in
    ap (λ (q : Picture). Some (view_on b q.length)) same
    ∙ ap (λ (b : ℕ). Some (view_on b p.length)) here
new_view_at b (Some q ∷ ps) (suc i) p has =
    let same : 1 + seats_before i ps ≡ suc (seats_before i ps) = omega arith in
    let on : b + 1 + seats_before i ps ≡ b + suc (seats_before i ps) = omega arith in
    subst (λ (k : ℕ). get_item k (views_of b (Some q ∷ ps)) ≡ Some (view_on (b + k) p.length))
    (sym same)
    (new_view_at (b + 1) ps i p has ∙ ap (λ (n : ℕ). Some (view_on n p.length)) on)

-- ---- what a new view is read as

of_some_list : {x y : List ℕ} → ◌≡◌ {A = Option (List ℕ)} (Some x) (Some y) → x ≡ y
of_some_list same = cc

-- a view of the one buffer that has these bytes
record Has (all : List (List ℕ)) (bytes : List ℕ) (w : View) : Type 0 where
  buffer : w.buffer ≡ 0
  within : view_offset w + w.byte_length ≤ length (joined all)
  is_bytes : bytes ≡ take w.byte_length (drop (view_offset w) (joined all))

cut_out : (front bytes back all : List ℕ) (offset long : ℕ) → all ≡ front ++ (bytes ++ back)
    → offset ≡ length front → long ≡ length bytes → bytes ≡ take long (drop offset all)
cut_out front bytes back all offset long is at is_long =
    sym (ap (λ (n : ℕ). take n (drop offset all)) is_long
    ∙ ap (λ (n : ℕ). take (length bytes) (drop n all)) at
    ∙ ap (λ (xs : List ℕ). take (length bytes) (drop (length front) xs)) is
    ∙ ap (take (length bytes)) (drop-append_seam front (bytes ++ back))
    ∙ take-append_seam bytes back)

module _ (all : List (List ℕ)) (n long : ℕ) (w : View) (bytes : List ℕ)
    (there : slice_get all n ≡ Some bytes) (is_long : long ≡ length bytes)
    (is : buffer_view.is (moved (spans_from 0 all) (view_on n long)) w) where
  abbrev spans : List Span
  spans = spans_from 0 all

  abbrev e : Data
  e = view_on n long

  has_at : (s : Span) → span_of spans e ≡ Some s → Has all bytes w
  unfolding buffer_view
  has_at s at =
      let stand = stands 0 all n s at in
      let same : stand.bytes ≡ bytes = of_some_list (sym stand.there ∙ there) in
      let whole : joined all ≡ stand.front ++ (bytes ++ stand.back) =
      subst (λ (xs : List ℕ). joined all ≡ stand.front ++ (xs ++ stand.back)) same stand.whole in
      let place = stand.place in
      let moves = size_is (codes "byteOffset") (moved spans e) _ (moved_offset spans e s refl at) in
      let begins : s.place + 0 ≡ view_offset w =
      ap (λ (o : Option ℕ). unwrap_or o 0)
      (sym moves ∙ optional_size (codes "byteOffset") (moved spans e) w.byte_offset is.1.1.1.0) in
      let goes : w.byte_length ≡ long =
      of_some (sym (required_size (codes "byteLength") (moved spans e) w.byte_length is.1.1.0)
      ∙ size_of (codes "byteLength") (moved spans e) e
      (moved_other spans e s refl at (codes "byteLength") (differ _ _ refl) (differ _ _ refl)
      (differ _ _ refl))) in
      let both = length-append bytes stand.back in
      let length_of = ap (λ (xs : List ℕ). length xs) whole
      ∙ length-append stand.front (bytes ++ stand.back) in
      record {
        buffer =
            of_some (sym (required_index (codes "buffer") (moved spans e) w.buffer is.1.0)
            ∙ size_is (codes "buffer") (moved spans e) 0 (moved_buffer spans e s refl at));
        within = omega arith;
        is_bytes =
            cut_out stand.front bytes stand.back (joined all) (view_offset w) w.byte_length whole
            (omega arith) (omega arith);
      }

  has_if : (o : Option Span) → span_of spans e ≡ o → MatchOption o ⊥ (LiesIn e) → Has all bytes w
  has_if None at lies = absurd lies
  has_if (Some s) at lies = has_at s at

  has : Lies spans e → Has all bytes w
  has lies = has_if (span_of spans e) refl lies

-- ---- what an image is read as

record Shows (n : ℕ) (media : List ℕ) (x : Image) : Type 0 where
  no_uri : x.uri ≡ None
  type : option_map string_bytes x.mime_type ≡ Some media
  names_view : x.buffer_view ≡ Some n

object_back : (k : List ℕ) (e d : Data) → IsSome (as_object (with_member k e d))
    → IsSome (as_object d)
object_back k e null is = is
object_back k e (boolean b) is = is
object_back k e (number n) is = is
object_back k e (string s) is = is
object_back k e (array ds) is = is
object_back k e (object ms) is = refl

text_is : (o : Option (String Global)) (m : List ℕ)
    → MatchOption o ⊥ (λ t. ◌≡◌ {A = Option (List ℕ)} (Some m) (Some (string_bytes t)))
    → option_map string_bytes o ≡ Some m
text_is None m is = absurd is
text_is (Some t) m is = sym is

module _ (n : ℕ) (p : Picture) (e : Data) (x : Image) where
  abbrev bare : Data
  bare = without_member (codes "uri") e

  abbrev in_view : Data
  in_view = with_member (codes "bufferView") (whole n) bare

  shows : image.is (with_picture n p e) x → Shows n (string_bytes p.media) x
  unfolding image
  shows is =
      let on_view : IsSome (as_object in_view) =
      object_back (codes "mimeType") (string (string_bytes p.media)) in_view is.0 in
      let on_bare : IsSome (as_object bare) =
      object_back (codes "bufferView") (whole n) bare on_view in
      let view : get (codes "bufferView") (with_picture n p e) ≡ Some (whole n) =
      get_with_other (codes "bufferView") (codes "mimeType") (string (string_bytes p.media)) in_view
      (differ _ _ refl)
      ∙ get_with (codes "bufferView") (whole n) bare on_bare in
      let type : get (codes "mimeType") (with_picture n p e)
      ≡ Some (string (string_bytes p.media)) =
      get_with (codes "mimeType") (string (string_bytes p.media)) in_view on_view in
      record {
        no_uri =
            subst (λ (o : Option Data). MatchOption (option_and_then unless_null o) (x.uri ≡ None)
            (λ e. MatchOption x.uri ⊥ (λ t. as_str e ≡ Some (string_bytes t)))) (no_uri n p e)
            is.1.1.1.0;
        type =
            text_is x.mime_type (string_bytes p.media)
            (subst (λ (o : Option Data). MatchOption (option_and_then unless_null o)
            (x.mime_type ≡ None)
            (λ e. MatchOption x.mime_type ⊥ (λ t. as_str e ≡ Some (string_bytes t)))) type
            is.1.1.0);
        names_view =
            sym (optional_index (codes "bufferView") (with_picture n p e) x.buffer_view is.1.0)
            ∙ size_is (codes "bufferView") (with_picture n p e) n view;
      }

-- ---- what lists are read as

abbrev pub ReadsImages : Option Data → List Image → Type 0
ReadsImages o xs = MatchOption (option_and_then unless_null o) (xs ≡ [])
    (λ e. MatchOption (as_array e) ⊥ (λ ds. AllRead image.is ds xs))

abbrev items_in : Option Data → Items
items_in o = unwrap_or (option_and_then as_array o) no_items

abbrev pub images_at : List (Option Picture) → ℕ → Option Data → Option Data
images_at [] n o = None
images_at (p ∷ ps) n o = option_map (pictured_in n (p ∷ ps)) o

pub images_at_of : (ps : List (Option Picture)) (d : Data)
    → images_after ps d ≡ images_at ps (count_at (codes "bufferViews") d) (get (codes "images") d)
images_at_of [] d = refl
images_at_of (p ∷ ps) d = refl

image_read : (o : Option Data) (ps : List (Option Picture)) (n : ℕ) (xs : List Image) (i : ℕ)
    (e : Data) (p : Picture) → slice_get ps i ≡ Some (Some p) → get_item i (items_in o) ≡ Some e
    → ReadsImages (instead (images_at ps n o) o) xs
    → ReadAt image.is (with_picture (n + seats_before i ps) p e) xs i
image_read None ps n xs i e p has there is = cc
image_read (Some null) ps n xs i e p has there is = cc
image_read (Some (boolean b)) ps n xs i e p has there is = cc
image_read (Some (number x)) ps n xs i e p has there is = cc
image_read (Some (string s)) ps n xs i e p has there is = cc
image_read (Some (array ds)) [] n xs i e p has there is = cc
image_read (Some (array ds)) (q ∷ ps) n xs i e p has there is =
    read_at image.is (pictured n (q ∷ ps) ds) xs i _ is (pictured_at n (q ∷ ps) ds i p e has there)
image_read (Some (object ms)) ps n xs i e p has there is = cc

-- a view behind those that were there
record NewView (spans : List Span) (e : Data) (ws : List View) (j : ℕ) : Type 0 where
  read : ReadAt buffer_view.is (moved spans e) ws j
  lies : Lies spans e

view_read : (spans : List Span) (o : Option Data) (more : Items) (ws : List View) (k : ℕ) (e : Data)
    → get_item k more ≡ Some e
    → ReadsViews (option_map (each_item (moved spans)) (longer more o)) ws
    → MatchOption (longer more o) ⊤ (EachPlaced spans)
    → NewView spans e ws (items_len (items_in o) + k)
view_read spans o no_items ws k e there is placed = cc
view_read spans o (item f fs) ws k e there is placed =
    let at = past (items_in o) (item f fs) k ∙ there in
    record {
      read =
          read_at buffer_view.is (mapped (moved spans) (with_items (items_in o) (item f fs))) ws
          (items_len (items_in o) + k) (moved spans e) is
          (mapped_at (moved spans) (with_items (items_in o) (item f fs))
          (items_len (items_in o) + k)
          e at);
      lies =
          placed_at spans (with_items (items_in o) (item f fs)) (items_len (items_in o) + k) e
          placed
          at;
    }

as_many : (ds : Items) (bs : List Buffer) → AllRead buffer.is ds bs → items_len ds ≡ length bs
as_many no_items [] is = refl
as_many no_items (b ∷ bs) is = absurd is
as_many (item d ds) [] is = absurd is
as_many (item d ds) (b ∷ bs) is = ap suc (as_many ds bs is.1)

counted : (o : Option Data) (bs : List Buffer)
    → MatchOption (option_and_then unless_null o) (bs ≡ [])
    (λ e. MatchOption (as_array e) ⊥ (λ ds. AllRead buffer.is ds bs))
    → items_len (items_in o) ≡ length bs
counted None bs is = sym (ap (λ (xs : List Buffer). length xs) is)
counted (Some null) bs is = sym (ap (λ (xs : List Buffer). length xs) is)
counted (Some (boolean b)) bs is = absurd is
counted (Some (number n)) bs is = absurd is
counted (Some (string s)) bs is = absurd is
counted (Some (array ds)) bs is = as_many ds bs is
counted (Some (object ms)) bs is = absurd is

behind_get : {A : Type 0} (xs ys : List A) (k : ℕ)
    → slice_get (xs ++ ys) (length xs + k) ≡ slice_get ys k
behind_get [] ys k = ap (slice_get ys) (omega arith)
behind_get (x ∷ xs) ys k =
    let one : suc (length xs) + k ≡ suc (length xs + k) = omega arith in
    ap (slice_get (x ∷ xs ++ ys)) one ∙ behind_get xs ys k

one_of_some : (all : List (List ℕ)) (n : ℕ) (bytes : List ℕ) → slice_get all n ≡ Some bytes
    → slice_get (one_list all) 0 ≡ Some (joined all)
one_of_some [] n bytes there = cc
one_of_some (first ∷ more) n bytes there = refl

-- ---- all together

pub shows_images : ShowsImages
unfolding root
shows_images buffers images r s m i e there p has_picture bytes given long =
    let all = buffers ++ images in
    let d = m.value in
    let ps = m.pictures in
    let k = seats_before i ps in
    let b = count_at (codes "buffers") d in
    let n = count_at (codes "bufferViews") d in
    let spans = spans_from 0 all in
    let total = length (joined all) in
    let is_object : IsSome (as_object d) = m.before.0 in
    let of_image =
    image_read (get (codes "images") d) ps n s.images.items i e p has_picture there
    (subst (λ o. ReadsImages o s.images.items)
    (bundled_other spans total (embedded ps d) (codes "images") (differ _ _ refl) (differ _ _ refl)
    ∙ embedded_images ps d is_object
    ∙ ap (λ o. instead o (get (codes "images") d)) (images_at_of ps d))
    m.after.1.1.1.1.1.1.1.0) in
    let shown = shows (n + k) p e of_image.value of_image.reads in
    let of_view =
    view_read spans (get (codes "bufferViews") d) (more_views ps d) s.buffer_views.items k
    (view_on (b + k) p.length) (new_view_at b ps i p has_picture)
    (subst (λ o. ReadsViews o s.buffer_views.items) (views_after spans total ps d is_object)
    m.after.1.1.1.1.1.0)
    (subst (λ o. MatchOption o ⊤ (EachPlaced spans)) (longer_views ps d is_object) m.placed) in
    let count = counted (get (codes "buffers") d) r.buffers.items m.before.1.1.1.1.0
    ∙ sym m.count in
    let own : slice_get all (b + k) ≡ Some bytes =
    ap (λ (n : ℕ). slice_get all (n + k)) count ∙ behind_get buffers images k ∙ given in
    let held = has all (b + k) p.length of_view.read.value bytes own long of_view.read.reads
    of_view.lies in
    record {
      image = of_image.value;
      there = of_image.there;
      no_uri = shown.no_uri;
      type = shown.type;
      index = n + k;
      names_view = shown.names_view;
      view = of_view.read.value;
      view_there = of_view.read.there;
      whole = joined all;
      whole_there = ap (slice_get (one_list all)) held.buffer ∙ one_of_some all (b + k) bytes own;
      within = held.within;
      is_bytes = held.is_bytes;
    }
