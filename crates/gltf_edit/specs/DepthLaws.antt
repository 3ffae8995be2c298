-- An edited document nests no deeper than before, but for the list of its one buffer.
use Rattle.std.proofs.Common.{◌≡◌, ℕ, ◌+◌, ◌≤◌, ◌<◌, List, Option, Some, None, Ordering, Less}
use Rattle.std.proofs.Common.{Equal, Greater}
use Rattle.std.proofs.Common.{max, refl, subst, arith, codes}
use Rattle.std.specs.Cmp.Lexicographic.{slice_cmp}
use Rattle.std.specs.Ordering.{match_ordering, nat_cmp}
use Rattle.std.specs.Prelude.{option_map, option_and_then, unwrap_or}
use Rattle.serde_json.specs.Data.{Data, null, boolean, number, string, array, object, Items}
use Rattle.serde_json.specs.Data.{no_items, item, Members, no_members, member, put, depth}
use Rattle.serde_json.specs.Data.{items_depth, members_depth}
use Rattle.serde_json.specs.Find.{get, get_member}
use Rattle.gltf_edit.specs.Bundled.{with_member, with_some, placed, whole, relocated, moved}
use Rattle.gltf_edit.specs.Bundled.{relocated_extensions, relocated_at, meshopt, khr_meshopt}
use Rattle.gltf_edit.specs.Bundled.{unless_null, span_of, mapped, each_item}
use Rattle.gltf_edit.specs.Bundled.{one_buffer, one_of, bundled, views_after}
use Rattle.gltf_edit.specs.Bundled.{size_or_zero}
use Rattle.gltf_edit.specs.declared.span.Span.{Span}

placed_at : (o : Ordering) (k l : List ℕ) (d e : Data) (ms : Members)
    → members_depth (put k d ms) ≤ max (depth d) (members_depth ms)
    → members_depth (match_ordering o (member k d (member l e ms)) (member l d ms)
    (member l e (put k d ms)))
    ≤ max (depth d) (max (depth e) (members_depth ms))
placed_at Less k l d e ms later = omega arith
placed_at Equal k l d e ms later = omega arith
placed_at Greater k l d e ms later = omega arith

put_depth : (k : List ℕ) (d : Data) (ms : Members)
    → members_depth (put k d ms) ≤ max (depth d) (members_depth ms)
put_depth k d no_members = omega arith
put_depth k d (member l e ms) =
    placed_at (slice_cmp nat_cmp k l) k l d e ms (put_depth k d ms)

-- a member that does not nest deeper than the others
pub with_shallow : (k : List ℕ) (e d : Data) (n : ℕ) → depth d ≤ n → depth e < n
    → depth (with_member k e d) ≤ n
with_shallow k e null n is less = is
with_shallow k e (boolean b) n is less = is
with_shallow k e (number x) n is less = is
with_shallow k e (string s) n is less = is
with_shallow k e (array ds) n is less = is
with_shallow k e (object ms) n is less = let put = put_depth k e ms in omega arith

-- a leaf
pub with_leaf : (k : List ℕ) (x : ℕ) (d : Data) → depth (with_member k (whole x) d) ≤ depth d
with_leaf k x null = omega arith
with_leaf k x (boolean b) = omega arith
with_leaf k x (number n) = omega arith
with_leaf k x (string s) = omega arith
with_leaf k x (array ds) = omega arith
with_leaf k x (object ms) = let put = put_depth k (whole x) ms in omega arith

found_at : (o : Ordering) (e d : Data) (r : Option Data) (n : ℕ)
    → (r ≡ Some d → depth d ≤ n) → match_ordering o r (Some e) r ≡ Some d
    → depth d ≤ max (depth e) n
found_at Less e d r n later is = let below = later is in omega arith
found_at Equal e d r n later is =
    let same : e ≡ d = cc in subst (λ d. depth d ≤ max (depth e) n) same (omega arith)
found_at Greater e d r n later is = let below = later is in omega arith

get_member_depth : (k : List ℕ) (d : Data) (ms : Members) → get_member k ms ≡ Some d
    → depth d ≤ members_depth ms
get_member_depth k d no_members is = cc
get_member_depth k d (member l e ms) is =
    found_at (slice_cmp nat_cmp k l) e d (get_member k ms) (members_depth ms)
    (get_member_depth k d ms) is

pub get_depth : (k : List ℕ) (e d : Data) → get k d ≡ Some e → depth e < depth d
get_depth k e null is = cc
get_depth k e (boolean b) is = cc
get_depth k e (number n) is = cc
get_depth k e (string s) is = cc
get_depth k e (array ds) is = cc
get_depth k e (object ms) is = let below = get_member_depth k e ms is in omega arith

-- f of a member of d in its place, in what nests no deeper than n
with_changed : (k : List ℕ) (f : Data → Data) (d base : Data) (n : ℕ) (o : Option Data)
    → get k d ≡ o → depth d ≤ n → depth base ≤ n
    → ((e : Data) → depth e < n → depth (f e) < n)
    → depth (with_some k (option_map f o) base) ≤ n
with_changed k f d base n None is short base_short less = base_short
with_changed k f d base n (Some e) is short base_short less =
    let within = get_depth k e d is in
    with_shallow k (f e) base n base_short (less e (omega arith))

-- f of a member of d in its place, where f nests nothing deeper
changed : (k : List ℕ) (f : Data → Data) (d e : Data) → get k d ≡ Some e
    → ((e : Data) → depth (f e) ≤ depth e) → depth (with_some k (Some (f e)) d) ≤ depth d
changed k f d e there less =
    with_changed k f d d (depth d) (Some e) there (omega arith) (omega arith)
    (λ e below. let no_more = less e in omega arith)

span_placed : (d : Data) (o : Option Span)
    → depth (unwrap_or (option_map (λ s. placed s.place d) o) d) ≤ depth d
span_placed d None = omega arith
span_placed d (Some s) =
    let inner = with_member (codes "buffer") (whole 0) d in
    let buffer = with_leaf (codes "buffer") 0 d in
    let at = s.place + size_or_zero (codes "byteOffset") d in
    let offset : depth (with_member (codes "byteOffset") (whole at) inner) ≤ depth inner =
    with_leaf (codes "byteOffset") at inner in
    omega (arith, buffer, offset)

module _ (spans : List Span) where
  relocated_depth : (d : Data) → depth (relocated spans d) ≤ depth d
  relocated_depth d = span_placed d (span_of spans d)

  -- a member that is not null is the member
  not_null : (o : Option Data) (f : Data → Data) (k : List ℕ) (d : Data) → get k d ≡ o
      → ((e : Data) → depth (f e) ≤ depth e)
      → depth (with_some k (option_map f (option_and_then unless_null o)) d) ≤ depth d
  not_null None f k d there less = omega arith
  not_null (Some null) f k d there less = omega arith
  not_null (Some (boolean b)) f k d there less = changed k f d (boolean b) there less
  not_null (Some (number n)) f k d there less = changed k f d (number n) there less
  not_null (Some (string s)) f k d there less = changed k f d (string s) there less
  not_null (Some (array ds)) f k d there less = changed k f d (array ds) there less
  not_null (Some (object ms)) f k d there less = changed k f d (object ms) there less

  at_depth : (k : List ℕ) (d : Data) → depth (relocated_at k spans d) ≤ depth d
  at_depth k d = not_null (get k d) (relocated spans) k d refl relocated_depth

  extensions_depth : (d : Data) → depth (relocated_extensions spans d) ≤ depth d
  extensions_depth d =
      let once = at_depth meshopt d in
      let twice = at_depth khr_meshopt (relocated_at meshopt spans d) in
      omega arith

  moved_depth : (d : Data) → depth (moved spans d) ≤ depth d
  moved_depth d =
      with_changed (codes "extensions") (relocated_extensions spans) d (relocated spans d)
      (depth d) (get (codes "extensions") d) refl (omega arith) (relocated_depth d)
      (λ e less. let no_more = extensions_depth e in omega arith)

  mapped_depth : (ds : Items) → items_depth (mapped (moved spans) ds) ≤ items_depth ds
  mapped_depth no_items = omega arith
  mapped_depth (item d ds) =
      let first = moved_depth d in
      let more = mapped_depth ds in
      omega arith

  views_depth : (d : Data) → depth (each_item (moved spans) d) ≤ depth d
  views_depth null = omega arith
  views_depth (boolean b) = omega arith
  views_depth (number n) = omega arith
  views_depth (string s) = omega arith
  views_depth (array ds) = let all = mapped_depth ds in omega arith
  views_depth (object ms) = omega arith

one_depth : (total : ℕ) (ds : Items) → items_depth (one_of total ds) ≤ 1
one_depth total no_items = omega arith
one_depth total (item d ds) = omega arith

one_buffer_depth : (total : ℕ) (d : Data) → depth (one_buffer total d) ≤ max (depth d) 2
one_buffer_depth total null = omega arith
one_buffer_depth total (boolean b) = omega arith
one_buffer_depth total (number n) = omega arith
one_buffer_depth total (string s) = omega arith
one_buffer_depth total (array ds) = let one = one_depth total ds in omega arith
one_buffer_depth total (object ms) = omega arith

-- so where a document nests no deeper than some number from three on, the edited one does not
pub bundled_depth : (spans : List Span) (total : ℕ) (d : Data) (n : ℕ) → 3 ≤ n → depth d ≤ n
    → depth (bundled spans total d) ≤ n
bundled_depth spans total d n room short =
    with_changed (codes "buffers") (one_buffer total) d
    (with_some (codes "bufferViews") (views_after spans d) d) n (get (codes "buffers") d) refl short
    (with_changed (codes "bufferViews") (each_item (moved spans)) d d n
    (get (codes "bufferViews") d) refl short short
    (λ e less. let no_more = views_depth spans e in omega arith))
    (λ e less. let no_more = one_buffer_depth total e in omega arith)
