-- The views of a document whose buffers became one lie in that one.
use Rattle.std.proofs.Common.{◌≡◌, ◌≤◌, ℕ, zero, suc, ◌+◌, List, Option, Some, None, option_map}
use Rattle.std.proofs.Common.{codes, unwrap_or, slice_get, refl, sym, ap, subst, ◌∙◌, arith}
use Rattle.std.specs.Prelude.{MatchOption, IsSome, option_and_then, ⊤}
use Rattle.serde_json.specs.Data.{Data, null, boolean, number, string, array, object, Items}
use Rattle.serde_json.specs.Data.{no_items, item}
use Rattle.serde_json.specs.Find.{get, get_item, as_object, as_array, as_number, as_u64}
use Rattle.gltf_edit.specs.Bundled.{with_member, with_some, whole, size_or_zero, span_of, Lies}
use Rattle.gltf_edit.specs.Bundled.{LiesIn, placed, relocated, relocated_at, relocated_extensions}
use Rattle.gltf_edit.specs.Bundled.{moved, meshopt, khr_meshopt, member_at, unless_null, LiesAt}
use Rattle.gltf_edit.specs.Bundled.{ExtensionLies, IsPlaced, AllPlaced, EachPlaced, ArePlaced}
use Rattle.gltf_edit.specs.Bundled.{mapped, each_item, bundled}
use Rattle.gltf_edit.specs.BundledLaws.{differ, object_with, get_with, get_with_other}
use Rattle.gltf_edit.specs.BundledLaws.{get_with_some_other}
use Rattle.gltf_edit.specs.BundledLaws.{bundled_views, bundled_no_views}
use Rattle.gltf_edit.specs.Faults.{NamesStray, IsFirstStray}
use Rattle.gltf_edit.specs.Joined.{span}
use Rattle.gltf_edit.specs.declared.fault.Fault.TheVariants.{Outside}
use Rattle.gltf_edit.specs.declared.span.Span.{Span}
use Rattle.gltf_bundle.proofs.Again.{has_span, relocated_placed, object_relocated, IsFirst, done}
use Rattle.gltf_bundle.proofs.Again.{extensions_relocated, bu, off, ext, views}

abbrev len : List ℕ
len = codes "byteLength"

abbrev size_of : Option Data → Option ℕ
size_of o = option_and_then as_u64 (option_and_then as_number o)

-- a view lies in its buffer, by its members
abbrev LiesBy : List Span → Option Data → Option Data → Option Data → Type 0
LiesBy spans b o l =
    MatchOption (option_and_then (slice_get spans) (size_of b)) ⊥
    (λ (s : Span). unwrap_or (size_of o) 0 + unwrap_or (size_of l) 0 ≤ s.length)

-- extensions are none of these
lies_with : (spans : List Span) (x d : Data) → Lies spans d → Lies spans (with_member ext x d)
lies_with spans x d lies =
    let w = with_member ext x d in
    let b = get_with_other bu ext x d (differ bu ext refl) in
    let o = get_with_other off ext x d (differ off ext refl) in
    let l = get_with_other len ext x d (differ len ext refl) in
    let one : LiesBy spans (get bu d) (get off d) (get len w) =
    subst (λ (e : Option Data). LiesBy spans (get bu d) (get off d) e) (sym l) lies in
    let two : LiesBy spans (get bu d) (get off w) (get len w) =
    subst (λ (e : Option Data). LiesBy spans (get bu d) e (get len w)) (sym o) one in
    subst (λ (e : Option Data). LiesBy spans e (get off w) (get len w)) (sym b) two

module _ (spans others : List Span) (total : ℕ)
    (within : (d : Data) (s : Span) → span_of spans d ≡ Some s → s.place + s.length ≤ total)
    (first : (d : Data) (s : Span) → span_of spans d ≡ Some s
    → slice_get others 0 ≡ Some (span 0 total)) where
  lies_in : (d : Data) (s : Span) → span_of spans d ≡ Some s → Lies spans d → LiesIn d s
  lies_in d s there lies = subst (λ (o : Option Span). MatchOption o ⊥ (LiesIn d)) there lies

  lies_again : (d : Data) → Lies spans d → Lies others (relocated spans d)
  lies_again d lies =
      let has = has_span spans d lies in
      let s = has.span in
      let n = s.place + size_or_zero off d in
      let one = with_member bu (whole 0) d in
      let w = placed s.place d in
      let b : get bu w ≡ Some (whole 0) =
      get_with_other bu off (whole n) one (differ bu off refl)
      ∙ get_with bu (whole 0) d has.is_object in
      let o : get off w ≡ Some (whole n) =
      get_with off (whole n) one (object_with bu (whole 0) d has.is_object) in
      let l : get len w ≡ get len d =
      get_with_other len off (whole n) one (differ len off refl)
      ∙ get_with_other len bu (whole 0) d (differ len bu refl) in
      let there : span_of others w ≡ Some (span 0 total) =
      ap (λ (e : Option Data). option_and_then (slice_get others) (size_of e)) b
      ∙ first d s has.there in
      let begin : size_or_zero off w ≡ n = ap (λ (e : Option Data). unwrap_or (size_of e) 0) o in
      let long : size_or_zero len w ≡ size_or_zero len d =
      ap (λ (e : Option Data). unwrap_or (size_of e) 0) l in
      let inside : size_or_zero off d + size_or_zero len d ≤ s.length =
      lies_in d s has.there lies in
      let room : s.place + s.length ≤ total = within d s has.there in
      let fits : size_or_zero off w + size_or_zero len w ≤ total = omega arith in
      subst (λ (v : Data). Lies others v) (sym (relocated_placed spans d s has.there))
      (subst (λ (o : Option Span). MatchOption o ⊥ (LiesIn w)) (sym there) fits)

  -- ---- extensions of views

  is_first : (d : Data) (s : Span) → span_of spans d ≡ Some s → IsFirst others
  is_first d s there = record { first = span 0 total; there = first d s there; begins = refl }

  lie_moved : (o : Option Data) → MatchOption o ⊤ (Lies spans)
      → MatchOption (option_map (relocated spans) o) ⊤ (Lies others)
  lie_moved None lies = tt
  lie_moved (Some m) lies = lies_again m lies

  lies_at : (k : List ℕ) (e : Data) → LiesAt k spans e → LiesAt k others (relocated_at k spans e)
  lies_at k e lies =
      let is = done spans others is_first k e lies in
      subst (λ (o : Option Data). MatchOption o ⊤ (Lies others)) (sym is.after)
      (lie_moved (member_at k e) lies)

  extensions_lie : (e : Data) → ExtensionLies spans e
      → ExtensionLies others (relocated_extensions spans e)
  extensions_lie e lies =
      let q = option_map (relocated spans) (member_at meshopt e) in
      let b = relocated_at meshopt spans e in
      let p = option_map (relocated spans) (member_at khr_meshopt b) in
      let unmoved : member_at khr_meshopt b ≡ member_at khr_meshopt e =
      ap (option_and_then unless_null)
      (get_with_some_other khr_meshopt meshopt q e (differ khr_meshopt meshopt refl)) in
      let kept : member_at meshopt (relocated_extensions spans e) ≡ member_at meshopt b =
      ap (option_and_then unless_null)
      (get_with_some_other meshopt khr_meshopt p b (differ meshopt khr_meshopt refl)) in
      record {
        first =
            subst (λ (o : Option Data). MatchOption o ⊤ (Lies others)) (sym kept)
            (lies_at meshopt e lies.first);
        second =
            lies_at khr_meshopt b
            (subst (λ (o : Option Data). MatchOption o ⊤ (Lies spans)) (sym unmoved) lies.second);
      }

  -- ---- views

  view_with : (o : Option Data) (d : Data) → get ext d ≡ o → IsSome (as_object d)
      → MatchOption o ⊤ (ExtensionLies spans) → Lies others d
      → IsPlaced others (with_some ext (option_map (relocated_extensions spans) o) d)
  view_with None d there is extended alone = record {
    alone = alone;
    extended =
        subst (λ (o : Option Data). MatchOption o ⊤ (ExtensionLies others)) (sym there) tt;
  }
  view_with (Some e) d there is extended alone =
      let x = relocated_extensions spans e in
      record {
        alone = lies_with others x d alone;
        extended =
            subst (λ (o : Option Data). MatchOption o ⊤ (ExtensionLies others))
            (sym (get_with ext x d is)) (extensions_lie e extended);
      }

  view_placed : (d : Data) → IsPlaced spans d → IsPlaced others (moved spans d)
  view_placed d is =
      let has = has_span spans d is.alone in
      view_with (get ext d) (relocated spans d) (extensions_relocated spans d has)
      (object_relocated spans d has) is.extended (lies_again d is.alone)

  each_placed : (ds : Items) → AllPlaced spans ds → AllPlaced others (mapped (moved spans) ds)
  each_placed no_items are = tt
  each_placed (item d ds) are = (view_placed d are.0, each_placed ds are.1)

  views_placed : (e : Data) → EachPlaced spans e → EachPlaced others (each_item (moved spans) e)
  views_placed null are = tt
  views_placed (boolean b) are = tt
  views_placed (number n) are = tt
  views_placed (string s) are = tt
  views_placed (array ds) are = each_placed ds are
  views_placed (object ms) are = tt

  -- ---- documents

  placed_at : (n : ℕ) (d : Data) (o : Option Data) → IsSome (as_object d) → get views d ≡ o
      → MatchOption o ⊤ (EachPlaced spans) → ArePlaced others (bundled spans n d)
  placed_at n d None is there are =
      subst (λ (o : Option Data). MatchOption o ⊤ (EachPlaced others))
      (sym (bundled_no_views spans n d there)) tt
  placed_at n d (Some e) is there are =
      subst (λ (o : Option Data). MatchOption o ⊤ (EachPlaced others))
      (sym (bundled_views spans n d e is there)) (views_placed e are)

  pub placed_again : (n : ℕ) (d : Data) → IsSome (as_object d) → ArePlaced spans d
      → ArePlaced others (bundled spans n d)
  placed_again n d is are = placed_at n d (get views d) is refl are

-- ---- and none of them strays

module _ (spans : List Span) where
  none_strays : (ds : Items) (i : ℕ) → AllPlaced spans ds
      → MatchOption (get_item i ds) ⊥ (λ v. IsPlaced spans v → ⊥) → ⊥
  none_strays no_items zero are stray = stray
  none_strays no_items (suc i) are stray = stray
  none_strays (item d ds) zero are stray = stray are.0
  none_strays (item d ds) (suc i) are stray = none_strays ds i are.1 stray

  no_stray_in : (o : Option Data) (i : ℕ) → MatchOption o ⊤ (EachPlaced spans)
      → MatchOption o ⊥ (λ v. MatchOption (as_array v) ⊥ (IsFirstStray spans i)) → ⊥
  no_stray_in None i are told = told
  no_stray_in (Some null) i are told = told
  no_stray_in (Some (boolean b)) i are told = told
  no_stray_in (Some (number n)) i are told = told
  no_stray_in (Some (string s)) i are told = told
  no_stray_in (Some (array ds)) i are told = none_strays ds i are told.stray
  no_stray_in (Some (object ms)) i are told = told

  pub no_stray : (d : Data) (i : ℕ) → ArePlaced spans d → NamesStray spans d (Outside i) → ⊥
  no_stray d i are told = no_stray_in (get views d) i are told
