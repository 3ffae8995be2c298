-- Laws of the members of a document whose images went into buffers of their own.
use Rattle.std.proofs.Common.{◌≡◌, ℕ, suc, ◌+◌, ◌≤◌, ◌<◌, List, [], ◌∷◌, Option, Some, None, Bool}
use Rattle.std.proofs.Common.{true, false, bytes_eq, refl, sym, ap, ◌∙◌, codes, max, arith, is_eq}
use Rattle.std.proofs.Common.{option_map, Ordering, Less, Equal, Greater, if◌then◌else◌}
use Rattle.std.proofs.Common.{string_bytes}
use Rattle.std.proofs.lemmas.Slice.Eq.{bytes_eq-Decides}
use Rattle.std.proofs.lemmas.Map.Text.{is_eq-slice_cmp}
use Rattle.std.specs.Cmp.Lexicographic.{slice_cmp}
use Rattle.std.specs.Ordering.{match_ordering, nat_cmp}
use Rattle.std.specs.Prelude.{IsSome, option_and_then, unwrap_or, ◌&&◌}
use Rattle.std.specs.Option.{is_some}
use Rattle.serde_json.specs.Data.{Data, null, boolean, number, string, array, object, Items}
use Rattle.serde_json.specs.Data.{no_items, item, Members, no_members, member, depth}
use Rattle.serde_json.specs.Data.{items_depth, members_depth}
use Rattle.serde_json.specs.Events.{items_len}
use Rattle.serde_json.specs.Find.{get, get_member, as_object, as_array, as_str}
use Rattle.gltf_edit.specs.Bundled.{with_member, with_some, whole, size_at}
use Rattle.gltf_edit.specs.BundledLaws.{differ, get_with, get_with_other, get_with_some_other}
use Rattle.gltf_edit.specs.BundledLaws.{object_with_some}
use Rattle.gltf_edit.specs.DepthLaws.{with_shallow, with_leaf, get_depth}
use Rattle.gltf_edit.specs.Embedded.{without, without_member, with_items, items_at, list_after}
use Rattle.gltf_edit.specs.Embedded.{buffers_of, views_of, with_picture, shown}
use Rattle.gltf_edit.specs.Embedded.{text_at, has_both, sole_if, sole, own_uri_at, own_uri}
use Rattle.gltf_edit.specs.Embedded.{first, rest, seats, pictured, pictured_in, count_at}
use Rattle.gltf_edit.specs.Embedded.{images_after, embedded}
use Rattle.gltf_edit.specs.declared.picture.Picture.{Picture}

-- ---- without a member

either : (o : Ordering) (a b : Option Data) → is_eq o ≡ false → match_ordering o a b a ≡ a
either Less a b e = refl
either Equal a b e = cc
either Greater a b e = refl

gone_at : (b : Bool) (k l : List ℕ) (d : Data) (ms : Members) → bytes_eq k l ≡ b
    → get_member k (without k ms) ≡ None
    → get_member k (if b then without k ms else member l d (without k ms)) ≡ None
gone_at true k l d ms is later = later
gone_at false k l d ms is later =
    either (slice_cmp nat_cmp k l) (get_member k (without k ms)) (Some d)
    (is_eq-slice_cmp k l ∙ is)
    ∙ later

gone : (k : List ℕ) (ms : Members) → get_member k (without k ms) ≡ None
gone k no_members = refl
gone k (member l d ms) = gone_at (bytes_eq k l) k l d ms refl (gone k ms)

same_over : (o : Ordering) (a b c : Option Data) → a ≡ b
    → match_ordering o a c a ≡ match_ordering o b c b
same_over o a b c same = ap (λ x. match_ordering o x c x) same

unequal : (q k l : List ℕ) → (q ≡ k → ⊥) → k ≡ l → bytes_eq q l ≡ false
unequal q k l apart same = no_equal (bytes_eq q l) refl where
  no_equal : (b : Bool) → bytes_eq q l ≡ b → b ≡ false
  no_equal true is = absurd (apart ((bytes_eq-Decides q l).0 is ∙ sym same))
  no_equal false is = refl

stays_at : (b : Bool) (q k l : List ℕ) (d : Data) (ms : Members) → bytes_eq k l ≡ b
    → (q ≡ k → ⊥) → get_member q (without k ms) ≡ get_member q ms
    → get_member q (if b then without k ms else member l d (without k ms))
    ≡ get_member q (member l d ms)
stays_at true q k l d ms is apart later =
    later
    ∙ sym (either (slice_cmp nat_cmp q l) (get_member q ms) (Some d)
    (is_eq-slice_cmp q l ∙ unequal q k l apart ((bytes_eq-Decides k l).0 is)))
stays_at false q k l d ms is apart later =
    same_over (slice_cmp nat_cmp q l) (get_member q (without k ms)) (get_member q ms) (Some d) later

stays : (q k : List ℕ) (ms : Members) → (q ≡ k → ⊥)
    → get_member q (without k ms) ≡ get_member q ms
stays q k no_members apart = refl
stays q k (member l d ms) apart =
    stays_at (bytes_eq k l) q k l d ms refl apart (stays q k ms apart)

-- it is not there
pub get_without : (k : List ℕ) (d : Data) → get k (without_member k d) ≡ None
get_without k null = refl
get_without k (boolean b) = refl
get_without k (number n) = refl
get_without k (string s) = refl
get_without k (array ds) = refl
get_without k (object ms) = gone k ms

-- and the others are
pub get_without_other : (q k : List ℕ) (d : Data) → (q ≡ k → ⊥)
    → get q (without_member k d) ≡ get q d
get_without_other q k null apart = refl
get_without_other q k (boolean b) apart = refl
get_without_other q k (number n) apart = refl
get_without_other q k (string s) apart = refl
get_without_other q k (array ds) apart = refl
get_without_other q k (object ms) apart = stays q k ms apart

-- an image that is in a view has no URI
pub no_uri : (n : ℕ) (p : Picture) (d : Data) → get (codes "uri") (with_picture n p d) ≡ None
no_uri n p d =
    get_with_other (codes "uri") (codes "mimeType") (string _)
    (with_member (codes "bufferView") (whole n) (without_member (codes "uri") d))
    (differ _ _ refl)
    ∙ get_with_other (codes "uri") (codes "bufferView") (whole n) (without_member (codes "uri") d)
    (differ _ _ refl)
    ∙ get_without (codes "uri") d

-- ---- an image without a picture

-- an image that is not read by a URI has none
pub sole_no_uri : (d : Data) → own_uri d ≡ None → text_at (codes "uri") (sole d) ≡ None
sole_no_uri d none =
    by_cases (size_at (codes "bufferView") d) (text_at (codes "uri") d) refl refl none where
      by_cases : (view : Option ℕ) (uri : Option (List ℕ)) → size_at (codes "bufferView") d ≡ view
          → text_at (codes "uri") d ≡ uri → own_uri_at view uri ≡ None
          → text_at (codes "uri") (sole_if (is_some uri && is_some view) d) ≡ None
      by_cases None None names has none = has
      by_cases None (Some u) names has none = cc
      by_cases (Some n) None names has none = has
      by_cases (Some n) (Some u) names has none =
          ap (option_and_then as_str) (get_without (codes "uri") d)

-- an image without a URI is not read by one
pub no_own_uri : (d : Data) → text_at (codes "uri") d ≡ None → own_uri d ≡ None
no_own_uri d none =
    ap (own_uri_at (size_at (codes "bufferView") d)) none
    ∙ none_at (size_at (codes "bufferView") d) where
      none_at : (view : Option ℕ) → own_uri_at view None ≡ None
      none_at None = refl
      none_at (Some n) = refl

-- and stays as it is
pub sole_same : (d : Data) → text_at (codes "uri") d ≡ None → sole d ≡ d
sole_same d none =
    ap (λ (o : Option (List ℕ)).
    sole_if (is_some o && is_some (size_at (codes "bufferView") d)) d) none

-- ---- items

pub with_none : (ds : Items) → with_items ds no_items ≡ ds
with_none no_items = refl
with_none (item d ds) = ap (item d) (with_none ds)

pub length_with : (ds es : Items) → items_len (with_items ds es) ≡ items_len ds + items_len es
length_with no_items es = omega arith
length_with (item d ds) es = let later = length_with ds es in omega arith

-- ---- documents

-- what comes in its place, where there is something
abbrev pub instead : Option Data → Option Data → Option Data
instead None o = o
instead (Some e) o = Some e

pub get_with_some : (k : List ℕ) (o : Option Data) (d : Data) → IsSome (as_object d)
    → get k (with_some k o d) ≡ instead o (get k d)
get_with_some k None d is = refl
get_with_some k (Some e) d is = get_with k e d is

module _ (ps : List (Option Picture)) (d : Data) where
  abbrev new_views : Items
  new_views = views_of (count_at (codes "buffers") d) ps

  abbrev one : Data
  one = with_some (codes "buffers") (list_after (codes "buffers") (buffers_of ps) d) d

  abbrev two : Data
  two = with_some (codes "bufferViews") (list_after (codes "bufferViews") new_views d) one

  pub object_embedded : IsSome (as_object d) → IsSome (as_object (embedded ps d))
  object_embedded is =
      object_with_some (codes "images") (images_after ps d) two
      (object_with_some (codes "bufferViews") (list_after (codes "bufferViews") new_views d) one
      (object_with_some (codes "buffers") (list_after (codes "buffers") (buffers_of ps) d) d is))

  pub embedded_other : (q : List ℕ) → (q ≡ codes "buffers" → ⊥) → (q ≡ codes "bufferViews" → ⊥)
      → (q ≡ codes "images" → ⊥) → get q (embedded ps d) ≡ get q d
  embedded_other q buffers views images =
      get_with_some_other q (codes "images") (images_after ps d) two images
      ∙ get_with_some_other q (codes "bufferViews") (list_after (codes "bufferViews") new_views d)
      one views
      ∙ get_with_some_other q (codes "buffers") (list_after (codes "buffers") (buffers_of ps) d) d
      buffers

  pub embedded_buffers : IsSome (as_object d)
      → get (codes "buffers") (embedded ps d)
      ≡ instead (list_after (codes "buffers") (buffers_of ps) d) (get (codes "buffers") d)
  embedded_buffers is =
      get_with_some_other (codes "buffers") (codes "images") (images_after ps d) two
      (differ _ _ refl)
      ∙ get_with_some_other (codes "buffers") (codes "bufferViews")
      (list_after (codes "bufferViews") new_views d) one (differ _ _ refl)
      ∙ get_with_some (codes "buffers") (list_after (codes "buffers") (buffers_of ps) d) d is

  pub embedded_views : IsSome (as_object d)
      → get (codes "bufferViews") (embedded ps d)
      ≡ instead (list_after (codes "bufferViews") (views_of (count_at (codes "buffers") d) ps) d)
      (get (codes "bufferViews") d)
  embedded_views is =
      get_with_some_other (codes "bufferViews") (codes "images") (images_after ps d) two
      (differ _ _ refl)
      ∙ get_with_some (codes "bufferViews") (list_after (codes "bufferViews") new_views d) one
      (object_with_some (codes "buffers") (list_after (codes "buffers") (buffers_of ps) d) d is)
      ∙ ap (instead (list_after (codes "bufferViews") new_views d))
      (get_with_some_other (codes "bufferViews") (codes "buffers")
      (list_after (codes "buffers") (buffers_of ps) d) d (differ _ _ refl))

  pub embedded_images : IsSome (as_object d)
      → get (codes "images") (embedded ps d)
      ≡ instead (images_after ps d) (get (codes "images") d)
  embedded_images is =
      get_with_some (codes "images") (images_after ps d) two
      (object_with_some (codes "bufferViews") (list_after (codes "bufferViews") new_views d) one
      (object_with_some (codes "buffers") (list_after (codes "buffers") (buffers_of ps) d) d is))
      ∙ ap (instead (images_after ps d))
      (get_with_some_other (codes "images") (codes "bufferViews")
      (list_after (codes "bufferViews") new_views d) one (differ _ _ refl)
      ∙ get_with_some_other (codes "images") (codes "buffers")
      (list_after (codes "buffers") (buffers_of ps) d) d (differ _ _ refl))

-- a member that is a list, with more at its end
abbrev pub longer : Items → Option Data → Option Data
longer no_items o = o
longer (item e es) o =
    Some (array (with_items (unwrap_or (option_and_then as_array o) no_items) (item e es)))

longer_of : (k : List ℕ) (more : Items) (d : Data)
    → instead (list_after k more d) (get k d) ≡ longer more (get k d)
longer_of k no_items d = refl
longer_of k (item e es) d = refl

pub longer_list : (ds more : Items)
    → longer more (Some (array ds)) ≡ Some (array (with_items ds more))
longer_list ds no_items = ap (λ ds. Some (array ds)) (sym (with_none ds))
longer_list ds (item e es) = refl

-- the views that go behind those of a document
abbrev pub more_views : List (Option Picture) → Data → Items
more_views ps d = views_of (count_at (codes "buffers") d) ps

pub longer_buffers : (ps : List (Option Picture)) (d : Data) → IsSome (as_object d)
    → get (codes "buffers") (embedded ps d)
    ≡ longer (buffers_of ps) (get (codes "buffers") d)
longer_buffers ps d is =
    embedded_buffers ps d is ∙ longer_of (codes "buffers") (buffers_of ps) d

pub longer_views : (ps : List (Option Picture)) (d : Data) → IsSome (as_object d)
    → get (codes "bufferViews") (embedded ps d)
    ≡ longer (more_views ps d) (get (codes "bufferViews") d)
longer_views ps d is =
    embedded_views ps d is ∙ longer_of (codes "bufferViews") (more_views ps d) d

-- ---- how deep it nests

without_depth_at : (b : Bool) (l : List ℕ) (d : Data) (ms ns : Members)
    → members_depth ns ≤ members_depth ms
    → members_depth (if b then ns else member l d ns) ≤ max (depth d) (members_depth ms)
without_depth_at true l d ms ns later = omega arith
without_depth_at false l d ms ns later = omega arith

without_members_depth : (k : List ℕ) (ms : Members)
    → members_depth (without k ms) ≤ members_depth ms
without_members_depth k no_members = omega arith
without_members_depth k (member l d ms) =
    without_depth_at (bytes_eq k l) l d ms (without k ms) (without_members_depth k ms)

without_depth : (k : List ℕ) (d : Data) → depth (without_member k d) ≤ depth d
without_depth k null = omega arith
without_depth k (boolean b) = omega arith
without_depth k (number n) = omega arith
without_depth k (string s) = omega arith
without_depth k (array ds) = omega arith
without_depth k (object ms) = let members = without_members_depth k ms in omega arith

-- a text at a member of an object
with_text : (k s : List ℕ) (d : Data) → depth (with_member k (string s) d) ≤ depth d
with_text k s null = omega arith
with_text k s (boolean b) = omega arith
with_text k s (number n) = omega arith
with_text k s (string t) = omega arith
with_text k s (array ds) = omega arith
with_text k s (object ms) =
    with_shallow k (string s) (object ms) (depth (object ms)) (omega arith) (omega arith)

sole_depth : (both : Bool) (d : Data) → depth (sole_if both d) ≤ depth d
sole_depth true d = without_depth (codes "uri") d
sole_depth false d = omega arith

shown_depth : (n : ℕ) (o : Option Picture) (d : Data) → depth (shown n o d) ≤ depth d
shown_depth n None d = sole_depth (has_both d) d
shown_depth n (Some p) d =
    let bare = without_member (codes "uri") d in
    let view = with_member (codes "bufferView") (whole n) bare in
    let no_uri = without_depth (codes "uri") d in
    let with_view = with_leaf (codes "bufferView") n bare in
    let with_type = with_text (codes "mimeType") (string_bytes p.media) view in
    omega (arith, no_uri, with_view, with_type)

pictured_depth : (n : ℕ) (ps : List (Option Picture)) (ds : Items)
    → items_depth (pictured n ps ds) ≤ items_depth ds
pictured_depth n ps no_items = omega arith
pictured_depth n ps (item d ds) =
    let here = shown_depth n (first ps) d in
    let later = pictured_depth (n + seats (first ps)) (rest ps) ds in
    omega (arith, here, later)

pictured_in_depth : (n : ℕ) (ps : List (Option Picture)) (d : Data)
    → depth (pictured_in n ps d) ≤ depth d
pictured_in_depth n ps null = omega arith
pictured_in_depth n ps (boolean b) = omega arith
pictured_in_depth n ps (number x) = omega arith
pictured_in_depth n ps (string s) = omega arith
pictured_in_depth n ps (array ds) = let all = pictured_depth n ps ds in omega (arith, all)
pictured_in_depth n ps (object ms) = omega arith

both_depth : (ds es : Items)
    → items_depth (with_items ds es) ≤ max (items_depth ds) (items_depth es)
both_depth no_items es = omega arith
both_depth (item d ds) es = let later = both_depth ds es in omega (arith, later)

buffers_depth : (ps : List (Option Picture)) → items_depth (buffers_of ps) ≤ 1
buffers_depth [] = omega arith
buffers_depth (None ∷ ps) = buffers_depth ps
buffers_depth (Some p ∷ ps) = let later = buffers_depth ps in omega (arith, later)

views_depth : (b : ℕ) (ps : List (Option Picture)) → items_depth (views_of b ps) ≤ 1
views_depth b [] = omega arith
views_depth b (None ∷ ps) = views_depth b ps
views_depth b (Some p ∷ ps) = let later = views_depth (b + 1) ps in omega (arith, later)

listed_depth : (e : Data) → items_depth (unwrap_or (as_array e) no_items) ≤ depth e
listed_depth null = omega arith
listed_depth (boolean b) = omega arith
listed_depth (number n) = omega arith
listed_depth (string s) = omega arith
listed_depth (array ds) = omega arith
listed_depth (object ms) = omega arith

-- the items of a member, in a list
items_at_depth : (k : List ℕ) (d : Data) (o : Option Data) (n : ℕ) → get k d ≡ o → depth d ≤ n
    → 2 ≤ n → suc (items_depth (unwrap_or (option_and_then as_array o) no_items)) < n
items_at_depth k d None n is short room = omega arith
items_at_depth k d (Some null) n is short room = omega arith
items_at_depth k d (Some (boolean b)) n is short room = omega arith
items_at_depth k d (Some (number x)) n is short room = omega arith
items_at_depth k d (Some (string s)) n is short room = omega arith
items_at_depth k d (Some (array ds)) n is short room =
    let within = get_depth k (array ds) d is in omega (arith, within)
items_at_depth k d (Some (object ms)) n is short room = omega arith

with_list_depth : (k : List ℕ) (more : Items) (d base : Data) (n : ℕ) → depth d ≤ n
    → depth base ≤ n → 3 ≤ n → items_depth more ≤ 1
    → depth (with_some k (list_after k more d) base) ≤ n
with_list_depth k no_items d base n short base_short room few = base_short
with_list_depth k (item e es) d base n short base_short room few =
    let there = items_at_depth k d (get k d) n refl short (omega arith) in
    let both = both_depth (items_at k d) (item e es) in
    with_shallow k (array (with_items (items_at k d) (item e es))) base n base_short
    (omega (arith, there, both))

with_images_depth : (ps : List (Option Picture)) (d base : Data) (n : ℕ) → depth d ≤ n
    → depth base ≤ n → depth (with_some (codes "images") (images_after ps d) base) ≤ n
with_images_depth [] d base n short base_short = base_short
with_images_depth (p ∷ ps) d base n short base_short =
    with_images (get (codes "images") d) refl where
      with_images : (o : Option Data) → get (codes "images") d ≡ o
          → depth (with_some (codes "images")
          (option_map (pictured_in (count_at (codes "bufferViews") d) (p ∷ ps)) o) base) ≤ n
      with_images None is = base_short
      with_images (Some e) is =
          let within = get_depth (codes "images") e d is in
          let no_more = pictured_in_depth (count_at (codes "bufferViews") d) (p ∷ ps) e in
          with_shallow (codes "images")
          (pictured_in (count_at (codes "bufferViews") d) (p ∷ ps) e) base n base_short
          (omega (arith, within, no_more))

-- so where a document nests no deeper than some number from three on, the edited one does not
pub embedded_depth : (ps : List (Option Picture)) (d : Data) (n : ℕ) → 3 ≤ n → depth d ≤ n
    → depth (embedded ps d) ≤ n
embedded_depth ps d n room short =
    with_images_depth ps d (two ps d) n short
    (with_list_depth (codes "bufferViews") (more_views ps d) d (one ps d) n short
    (with_list_depth (codes "buffers") (buffers_of ps) d d n short short room (buffers_depth ps))
    room (views_depth (count_at (codes "buffers") d) ps))
