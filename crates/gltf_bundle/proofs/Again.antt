-- A document whose buffers became one is, edited once more, as it was.
use Rattle.std.proofs.Common.{◌≡◌, ℕ, ◌+◌, List, Option, Some, None, option_map, codes}
use Rattle.std.proofs.Common.{arith}
use Rattle.std.proofs.Common.{refl, sym, ap, subst, ◌∙◌, unwrap_or, slice_get}
use Rattle.std.specs.Prelude.{MatchOption, IsSome, option_and_then, ⊤}
use Rattle.serde_json.specs.Data.{Data, null, boolean, number, string, array, object, Items}
use Rattle.serde_json.specs.Data.{no_items, item}
use Rattle.serde_json.specs.Find.{get, as_object, as_number, as_u64}
use Rattle.gltf_edit.specs.Bundled.{with_member, with_some, whole, size_or_zero, span_of, Lies}
use Rattle.gltf_edit.specs.Bundled.{LiesIn}
use Rattle.gltf_edit.specs.Bundled.{placed, relocated, relocated_at, relocated_extensions, moved}
use Rattle.gltf_edit.specs.Bundled.{meshopt, khr_meshopt, member_at, unless_null, LiesAt}
use Rattle.gltf_edit.specs.Bundled.{ExtensionLies, IsPlaced, AllPlaced, EachPlaced, ArePlaced}
use Rattle.gltf_edit.specs.Bundled.{mapped, each_item, one_buffer, buffers_after, views_after}
use Rattle.gltf_edit.specs.Bundled.{bundled}
use Rattle.gltf_edit.specs.BundledLaws.{differ, object_with, get_with}
use Rattle.gltf_edit.specs.BundledLaws.{get_with_other, get_with_some_other, bundled_views}
use Rattle.gltf_edit.specs.BundledLaws.{bundled_no_views}
use Rattle.gltf_edit.specs.declared.span.Span.{Span}
use Rattle.gltf_bundle.proofs.Fixed.{IsSet, set_with, same_with, kept_with, kept_with_some}
use Rattle.gltf_bundle.proofs.Imported.{buffers_changed}

abbrev pub bu : List ℕ
bu = codes "buffer"

abbrev pub off : List ℕ
off = codes "byteOffset"

abbrev pub ext : List ℕ
ext = codes "extensions"

-- the first buffer of a list stands at the begin
pub record IsFirst (spans : List Span) : Type 0 where
  pub first : Span
  pub there : slice_get spans 0 ≡ Some first
  pub begins : first.place ≡ 0

-- a view that was moved: it names the one buffer, at k
record IsSettled (d : Data) : Type 0 where
  k : ℕ
  set_buffer : IsSet bu (whole 0) d
  set_offset : IsSet off (whole k) d
  buffer : get bu d ≡ Some (whole 0)
  offset : get off d ≡ Some (whole k)

pub object_of_get : (k : List ℕ) (d e : Data) → get k d ≡ Some e → IsSome (as_object d)
object_of_get k null e there = cc
object_of_get k (boolean b) e there = cc
object_of_get k (number n) e there = cc
object_of_get k (string s) e there = cc
object_of_get k (array ds) e there = cc
object_of_get k (object ms) e there = refl

placed_settled : (p : ℕ) (d : Data) → IsSome (as_object d) → IsSettled (placed p d)
placed_settled p d is =
    let n = p + size_or_zero off d in
    let one = with_member bu (whole 0) d in
    record {
      k = n;
      set_buffer =
          kept_with bu off (whole 0) (whole n) one (differ bu off refl) (set_with bu (whole 0) d);
      set_offset = set_with off (whole n) one;
      buffer = get_with_other bu off (whole n) one (differ bu off refl)
          ∙ get_with bu (whole 0) d is;
      offset = get_with off (whole n) one (object_with bu (whole 0) d is);
    }

kept_settled : (l : List ℕ) (o : Option Data) (d : Data) → (bu ≡ l → ⊥) → (off ≡ l → ⊥)
    → IsSettled d → IsSettled (with_some l o d)
kept_settled l o d not_buffer not_offset settled = record {
  k = settled.k;
  set_buffer = kept_with_some bu l (whole 0) o d not_buffer settled.set_buffer;
  set_offset = kept_with_some off l (whole settled.k) o d not_offset settled.set_offset;
  buffer = get_with_some_other bu l o d not_buffer ∙ settled.buffer;
  offset = get_with_some_other off l o d not_offset ∙ settled.offset;
}

settled_same : (spans : List Span) (d : Data) → IsFirst spans → IsSettled d
    → relocated spans d ≡ d
settled_same spans d first settled =
    let n = settled.k in
    let place = first.first.place in
    let is : span_of spans d ≡ Some first.first =
    ap (λ (o : Option Data).
    option_and_then (slice_get spans) (option_and_then as_u64 (option_and_then as_number o)))
    settled.buffer
    ∙ first.there in
    let size : size_or_zero off d ≡ n =
    ap (λ (o : Option Data). unwrap_or (option_and_then as_u64 (option_and_then as_number o)) 0)
    settled.offset in
    let sum : place + size_or_zero off d ≡ n =
    ap (λ (m : ℕ). m + size_or_zero off d) first.begins ∙ ap (λ (m : ℕ). 0 + m) size
    ∙ omega arith in
    ap (λ (o : Option Span). unwrap_or (option_map (λ (s : Span). placed s.place d) o) d) is
    ∙ ap (λ (m : ℕ). with_member off (whole m) (with_member bu (whole 0) d)) sum
    ∙ ap (λ (e : Data). with_member off (whole n) e)
    (same_with bu (whole 0) d settled.set_buffer)
    ∙ same_with off (whole n) d settled.set_offset

-- what lies in a buffer has a span
pub record HasSpan (spans : List Span) (d : Data) : Type 0 where
  pub span : Span
  pub there : span_of spans d ≡ Some span
  pub is_object : IsSome (as_object d)

object_of_span : (spans : List Span) (d : Data) (s : Span) → span_of spans d ≡ Some s
    → IsSome (as_object d)
object_of_span spans null s there = cc
object_of_span spans (boolean b) s there = cc
object_of_span spans (number n) s there = cc
object_of_span spans (string t) s there = cc
object_of_span spans (array ds) s there = cc
object_of_span spans (object ms) s there = refl

has_span_at : (spans : List Span) (d : Data) (o : Option Span) → span_of spans d ≡ o
    → MatchOption o ⊥ (LiesIn d) → HasSpan spans d
has_span_at spans d None is lies = absurd lies
has_span_at spans d (Some s) is lies =
    record { span = s; there = is; is_object = object_of_span spans d s is }

pub has_span : (spans : List Span) (d : Data) → Lies spans d → HasSpan spans d
has_span spans d lies = has_span_at spans d (span_of spans d) refl lies

pub relocated_placed : (spans : List Span) (d : Data) (s : Span) → span_of spans d ≡ Some s
    → relocated spans d ≡ placed s.place d
relocated_placed spans d s there =
    ap (λ (o : Option Span). unwrap_or (option_map (λ (s : Span). placed s.place d) o) d) there

relocated_settled : (spans : List Span) (d : Data) → HasSpan spans d
    → IsSettled (relocated spans d)
relocated_settled spans d has =
    subst IsSettled (sym (relocated_placed spans d has.span has.there))
    (placed_settled has.span.place d has.is_object)

pub object_relocated : (spans : List Span) (d : Data) → HasSpan spans d
    → IsSome (as_object (relocated spans d))
object_relocated spans d has =
    let one = with_member bu (whole 0) d in
    subst (λ (e : Data). IsSome (as_object e)) (sym (relocated_placed spans d has.span has.there))
    (object_with off (whole (has.span.place + size_or_zero off d)) one
    (object_with bu (whole 0) d has.is_object))

pub extensions_relocated : (spans : List Span) (d : Data) → HasSpan spans d
    → get ext (relocated spans d) ≡ get ext d
extensions_relocated spans d has =
    let one = with_member bu (whole 0) d in
    ap (get ext) (relocated_placed spans d has.span has.there)
    ∙ get_with_other ext off (whole (has.span.place + size_or_zero off d)) one (differ ext off refl)
    ∙ get_with_other ext bu (whole 0) d (differ ext bu refl)

never : {x : Data} → ◌≡◌ {A = Option Data} None (Some x) → ⊥
never same = cc

same_data : {x y : Data} → ◌≡◌ {A = Option Data} (Some x) (Some y) → x ≡ y
same_data same = cc

-- an object is not null
not_null : (d : Data) → IsSome (as_object d) → unless_null d ≡ Some d
not_null null is = cc
not_null (boolean b) is = refl
not_null (number n) is = refl
not_null (string s) is = refl
not_null (array ds) is = refl
not_null (object ms) is = refl

-- what was said at a member was moved, and stays where it is
pub record IsDone (spans others : List Span) (k : List ℕ) (o : Option Data) (d : Data) : Type 0 where
  pub after : member_at k (with_some k (option_map (relocated spans) o) d)
      ≡ option_map (relocated spans) o
  pub same : (x : Data) → option_map (relocated spans) o ≡ Some x → relocated others x ≡ x
  pub set : (x : Data) → option_map (relocated spans) o ≡ Some x
      → IsSet k x (with_some k (option_map (relocated spans) o) d)

module _ (spans others : List Span)
    (first : (d : Data) (s : Span) → span_of spans d ≡ Some s → IsFirst others) where
  relocated_again : (d : Data) → HasSpan spans d
      → relocated others (relocated spans d) ≡ relocated spans d
  relocated_again d has =
      settled_same others (relocated spans d) (first d has.span has.there)
      (relocated_settled spans d has)

  -- ---- extensions of views

  -- an extension of which something was set, where it stays as it is
  settled_at : (k : List ℕ) (w : Data) (o : Option Data) → member_at k w ≡ o
      → ((x : Data) → o ≡ Some x → relocated others x ≡ x)
      → ((x : Data) → o ≡ Some x → IsSet k x w) → relocated_at k others w ≡ w
  settled_at k w None there same set =
      ap (λ (o : Option Data). with_some k (option_map (relocated others) o) w) there
  settled_at k w (Some x) there same set =
      ap (λ (o : Option Data). with_some k (option_map (relocated others) o) w) there
      ∙ ap (λ (y : Data). with_member k y w) (same x refl) ∙ same_with k x w (set x refl)

  done_none : (k : List ℕ) (d : Data) → member_at k d ≡ None → IsDone spans others k None d
  done_none k d none =
      record { after = none; same = λ x is. absurd (never is); set = λ x is. absurd (never is) }

  done_with : (k : List ℕ) (d m : Data) → get k d ≡ Some m → Lies spans m
      → IsDone spans others k (Some m) d
  done_with k d m there lies =
      let x = relocated spans m in
      let has = has_span spans m lies in
      record {
        after =
            ap (option_and_then unless_null) (get_with k x d (object_of_get k d m there))
            ∙ not_null x (object_relocated spans m has);
        same =
            λ y is.
            subst (λ (z : Data). relocated others z ≡ z) (same_data is) (relocated_again m has);
        set =
            λ y is.
            subst (λ (z : Data). IsSet k z (with_member k x d)) (same_data is) (set_with k x d);
      }

  done_at : (k : List ℕ) (d : Data) (g : Option Data) → get k d ≡ g
      → MatchOption (option_and_then unless_null g) ⊤ (Lies spans)
      → IsDone spans others k (option_and_then unless_null g) d
  done_at k d None is lies = done_none k d (ap (option_and_then unless_null) is)
  done_at k d (Some null) is lies = done_none k d (ap (option_and_then unless_null) is)
  done_at k d (Some (boolean b)) is lies = done_with k d (boolean b) is lies
  done_at k d (Some (number n)) is lies = done_with k d (number n) is lies
  done_at k d (Some (string s)) is lies = done_with k d (string s) is lies
  done_at k d (Some (array ds)) is lies = done_with k d (array ds) is lies
  done_at k d (Some (object ms)) is lies = done_with k d (object ms) is lies

  pub done : (k : List ℕ) (d : Data) → LiesAt k spans d → IsDone spans others k (member_at k d) d
  done k d lies = done_at k d (get k d) refl lies

  extensions_again : (e : Data) → ExtensionLies spans e
      → relocated_extensions others (relocated_extensions spans e) ≡ relocated_extensions spans e
  extensions_again e lies =
      let q = option_map (relocated spans) (member_at meshopt e) in
      let b = relocated_at meshopt spans e in
      let p = option_map (relocated spans) (member_at khr_meshopt b) in
      let w = relocated_extensions spans e in
      let apart = differ meshopt khr_meshopt refl in
      let first = done meshopt e lies.first in
      let unmoved : member_at khr_meshopt b ≡ member_at khr_meshopt e =
      ap (option_and_then unless_null)
      (get_with_some_other khr_meshopt meshopt q e (differ khr_meshopt meshopt refl)) in
      let second = done khr_meshopt b
      (subst (λ (o : Option Data). MatchOption o ⊤ (Lies spans)) (sym unmoved) lies.second) in
      let one : relocated_at meshopt others w ≡ w =
      settled_at meshopt w q
      (ap (option_and_then unless_null) (get_with_some_other meshopt khr_meshopt p b apart)
      ∙ first.after)
      first.same (λ x is. kept_with_some meshopt khr_meshopt x p b apart (first.set x is)) in
      ap (relocated_at khr_meshopt others) one
      ∙ settled_at khr_meshopt w p second.after second.same second.set

  -- ---- views

  abbrev with_extensions : List Span → Option Data → Data → Data
  with_extensions all o d = with_some ext (option_map (relocated_extensions all) o) d

  view_at : (o : Option Data) (d : Data) → MatchOption o ⊤ (ExtensionLies spans)
      → (has : IsFirst others) → IsSettled d → IsSome (as_object d) → get ext d ≡ o
      → moved others (with_extensions spans o d) ≡ with_extensions spans o d
  view_at None d lies has settled is there =
      ap (λ (o : Option Data). with_extensions others o (relocated others d)) there
      ∙ settled_same others d has settled
  view_at (Some e) d lies has settled is there =
      let x = relocated_extensions spans e in
      let w = with_member ext x d in
      let found : get ext w ≡ Some x = get_with ext x d is in
      ap (λ (o : Option Data). with_extensions others o (relocated others w)) found
      ∙ ap (λ (y : Data). with_member ext y (relocated others w)) (extensions_again e lies)
      ∙ ap (λ (v : Data). with_member ext x v)
      (settled_same others w has
      (kept_settled ext (Some x) d (differ bu ext refl) (differ off ext refl) settled))
      ∙ same_with ext x w (set_with ext x d)

  view_again : (d : Data) → IsPlaced spans d → moved others (moved spans d) ≡ moved spans d
  view_again d is =
      let has = has_span spans d is.alone in
      view_at (get ext d) (relocated spans d) is.extended (first d has.span has.there)
      (relocated_settled spans d has) (object_relocated spans d has)
      (extensions_relocated spans d has)

  each_again : (ds : Items) → AllPlaced spans ds
      → mapped (moved others) (mapped (moved spans) ds) ≡ mapped (moved spans) ds
  each_again no_items are = refl
  each_again (item d ds) are =
      ap (λ (e : Data). item e (mapped (moved others) (mapped (moved spans) ds)))
      (view_again d are.0)
      ∙ ap (λ (es : Items). item (moved spans d) es) (each_again ds are.1)

  views_again : (e : Data) → EachPlaced spans e
      → each_item (moved others) (each_item (moved spans) e) ≡ each_item (moved spans) e
  views_again null are = refl
  views_again (boolean b) are = refl
  views_again (number n) are = refl
  views_again (string s) are = refl
  views_again (array ds) are = ap array (each_again ds are)
  views_again (object ms) are = refl

-- ---- documents

-- a member that was changed, changed once more
redo : (k : List ℕ) (f g : Data → Data) (o : Option Data) (w : Data) → get k w ≡ option_map f o
    → ((e : Data) → o ≡ Some e → g (f e) ≡ f e) → ((e : Data) → o ≡ Some e → IsSet k (f e) w)
    → with_some k (option_map g (get k w)) w ≡ w
redo k f g None w there same set =
    ap (λ (p : Option Data). with_some k (option_map g p) w) there
redo k f g (Some e) w there same set =
    ap (λ (p : Option Data). with_some k (option_map g p) w) there
    ∙ ap (λ (x : Data). with_member k x w) (same e refl) ∙ same_with k (f e) w (set e refl)

one_again : (total : ℕ) (e : Data) → one_buffer total (one_buffer total e) ≡ one_buffer total e
one_again total null = refl
one_again total (boolean b) = refl
one_again total (number n) = refl
one_again total (string s) = refl
one_again total (array no_items) = refl
one_again total (array (item d ds)) = refl
one_again total (object ms) = refl

abbrev buffers : List ℕ
buffers = codes "buffers"

abbrev pub views : List ℕ
views = codes "bufferViews"

views_at : (spans : List Span) (total : ℕ) (d : Data) (o : Option Data) → IsSome (as_object d)
    → get views d ≡ o → get views (bundled spans total d) ≡ option_map (each_item (moved spans)) o
views_at spans total d None is there = bundled_no_views spans total d there
views_at spans total d (Some e) is there = bundled_views spans total d e is there

-- a list of a document that was set stays set
pub kept_bundled : (spans : List Span) (total : ℕ) (d : Data) (k : List ℕ) (v : Data)
    → (k ≡ buffers → ⊥) → (k ≡ views → ⊥) → IsSet k v d → IsSet k v (bundled spans total d)
kept_bundled spans total d k v not_buffers not_views is =
    kept_with_some k buffers v (buffers_after total d)
    (with_some views (views_after spans d) d) not_buffers
    (kept_with_some k views v (views_after spans d) d not_views is)

pub bundled_again : (spans others : List Span)
    → ((d : Data) (s : Span) → span_of spans d ≡ Some s → IsFirst others)
    → (total : ℕ) (d : Data) → IsSome (as_object d) → ArePlaced spans d
    → bundled others total (bundled spans total d) ≡ bundled spans total d
bundled_again spans others first total d is are =
    let between = with_some views (views_after spans d) d in
    let w = bundled spans total d in
    let of_views : with_some views (views_after others w) w ≡ w =
    redo views (each_item (moved spans)) (each_item (moved others)) (get views d) w
    (views_at spans total d (get views d) is refl)
    (λ e there. views_again spans others first e
    (subst (λ (o : Option Data). MatchOption o ⊤ (EachPlaced spans)) there are))
    (λ e there. subst (λ (o : Option Data).
    IsSet views (each_item (moved spans) e)
    (with_some buffers (buffers_after total d)
    (with_some views (option_map (each_item (moved spans)) o) d))) (sym there)
    (kept_with_some views buffers (each_item (moved spans) e) (buffers_after total d)
    (with_member views (each_item (moved spans) e) d) (differ views buffers refl)
    (set_with views (each_item (moved spans) e) d))) in
    let of_buffers : with_some buffers (buffers_after total w) w ≡ w =
    redo buffers (one_buffer total) (one_buffer total) (get buffers d) w
    (buffers_changed spans total d is) (λ e there. one_again total e)
    (λ e there. subst (λ (o : Option Data).
    IsSet buffers (one_buffer total e)
    (with_some buffers (option_map (one_buffer total) o) between)) (sym there)
    (set_with buffers (one_buffer total e) between)) in
    ap (λ (x : Data). with_some buffers (buffers_after total w) x) of_views ∙ of_buffers
