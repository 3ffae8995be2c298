-- A view that stays ends no later than its buffer.
use Rattle.std.proofs.Common.{◌≡◌, ℕ, zero, suc, ◌+◌, ◌-◌, ◌^◌, ◌≤◌, ◌<◌, List, [], ◌∷◌, length}
use Rattle.std.proofs.Common.{get_or, set, Bool, true, false, Option, Some, None, refl, sym}
use Rattle.std.proofs.Common.{ap, subst, ◌∙◌, arith, replicate, codes, max, nat_lt, nat_le}
use Rattle.std.proofs.lemmas.List.{length-set, length-replicate}
use Rattle.std.proofs.lemmas.Bool.{ltb-true, eqb-true, and_parts}
use Rattle.std.specs.Prelude.{if◌then◌else◌, ◌&&◌}
use Rattle.serde_json.specs.Data.{Data, Items, no_items, item}
use Rattle.serde_json.specs.Events.{items_len}
use Rattle.serde_json.specs.Find.{get_item}
use Rattle.gltf_edit.specs.Bundled.{size_at, size_or_zero}
use Rattle.gltf_edit.specs.Embedded.{items_at, count_at}
use Rattle.gltf_trim.specs.Lengths.{view_end, raised, raised_by, shorter_if, all_shorter}
use Rattle.gltf_trim.specs.Lengths.{lengths, take_items, drop_items, marked_buffer, in_64_bits}
use Rattle.gltf_trim.specs.Lengths.{all_may_go, is_index, is_between, is_in, is_in_some}
use Rattle.gltf_trim.specs.Marks.{folded}

-- ---- ends

max_grows : (a b : ℕ) → a ≤ max a b
max_grows a b = omega arith

raised_more : (ends : List ℕ) (i b e n : ℕ) → n ≤ get_or ends b 0
    → n ≤ get_or (set ends i (max (get_or ends i 0) e)) b 0
raised_more [] i b e n h = h
raised_more (x ∷ ends) zero zero e n h = omega arith
raised_more (x ∷ ends) zero (suc b) e n h = h
raised_more (x ∷ ends) (suc i) zero e n h = h
raised_more (x ∷ ends) (suc i) (suc b) e n h = raised_more ends i b e n h

raised_now : (ends : List ℕ) (b e : ℕ) → b < length ends
    → e ≤ get_or (set ends b (max (get_or ends b 0) e)) b 0
raised_now [] b e h = absurd (omega arith)
raised_now (x ∷ ends) zero e h = omega arith
raised_now (x ∷ ends) (suc b) e h = raised_now ends b e (omega arith)

no_less : (o : Option ℕ) (ends : List ℕ) (b e n : ℕ) → n ≤ get_or ends b 0
    → n ≤ get_or (raised o e ends) b 0
no_less None ends b e n h = h
no_less (Some i) ends b e n h = raised_more ends i b e n h

reached : (o : Option ℕ) (ends : List ℕ) (b e : ℕ) → o ≡ Some b → b < length ends
    → e ≤ get_or (raised o e ends) b 0
reached None ends b e is h = cc
reached (Some i) ends b e is h =
    let same : i ≡ b = cc in
    subst (λ (k : ℕ). e ≤ get_or (raised (Some k) e ends) b 0) (sym same) (raised_now ends b e h)

as_long : (o : Option ℕ) (e : ℕ) (ends : List ℕ) → length (raised o e ends) ≡ length ends
as_long None e ends = refl
as_long (Some i) e ends = length-set ends i (max (get_or ends i 0) e)

all_no_less : (ds : Items) (ends : List ℕ) (b n : ℕ) → n ≤ get_or ends b 0
    → n ≤ get_or (folded raised_by ds ends) b 0
all_no_less no_items ends b n h = h
all_no_less (item d ds) ends b n h =
    all_no_less ds (raised_by d ends) b n
    (no_less (size_at (codes "buffer") d) ends b (view_end d) n h)

-- each of the first views ends no later than its buffer
all_reached : (n : ℕ) (ds : Items) (ends : List ℕ) (j b : ℕ) (e : Data) → j < n
    → get_item j ds ≡ Some e → size_at (codes "buffer") e ≡ Some b → b < length ends
    → view_end e ≤ get_or (folded raised_by (take_items n ds) ends) b 0
all_reached zero ds ends j b e below there names h = absurd (omega arith)
all_reached (suc n) no_items ends j b e below there names h = cc
all_reached (suc n) (item d ds) ends zero b e below there names h =
    let same : d ≡ e = cc in
    all_no_less (take_items n ds) (raised_by d ends) b (view_end e)
    (subst (λ d. view_end e ≤ get_or (raised_by d ends) b 0) (sym same)
    (reached (size_at (codes "buffer") e) ends b (view_end e) names h))
all_reached (suc n) (item d ds) ends (suc j) b e below there names h =
    all_reached n ds (raised_by d ends) j b e (omega arith) there names
    (subst (λ (k : ℕ). b < k) (sym (as_long (size_at (codes "buffer") d) (view_end d) ends)) h)

-- ---- lengths

-- the element at an index, where it is there and is some
abbrev pub length_at : List (Option ℕ) → ℕ → Option ℕ
length_at [] i = None
length_at (l ∷ ls) zero = l
length_at (l ∷ ls) (suc i) = length_at ls i

-- a length is at least this, and less than what the buffer declares
pub record IsLess (l : ℕ) (end : ℕ) (d : Data) : Type 0 where
  pub some : 1 ≤ l
  pub reaches : end ≤ l
  pub less : l < size_or_zero (codes "byteLength") d
  pub small : l < 2 ^ 64 - 1

less_if : (b : Bool) (end l declared : ℕ) → nat_lt (max end 1) (in_64_bits declared) ≡ b
    → ◌≡◌ {A = Option ℕ} (if b then Some (max end 1) else None) (Some l)
    → (max end 1 ≡ l) × (max end 1 < in_64_bits declared)
less_if true end l declared is there = (cc, ltb-true (max end 1) (in_64_bits declared) is)
less_if false end l declared is there = cc

is_less : (mark : Bool) (end l : ℕ) (d : Data) → shorter_if mark end d ≡ Some l → IsLess l end d
is_less true end l d there =
    let declared = size_or_zero (codes "byteLength") d in
    let less = less_if (nat_lt (max end 1) (in_64_bits declared)) end l declared refl there in
    record {
      some = omega (arith, less.0);
      reaches = omega (arith, less.0);
      less = omega (arith, less.0, less.1);
      small = omega (arith, less.0, less.1);
    }
is_less false end l d there = cc

less_at : (may : ℕ → Bool) (ends : List ℕ) (i : ℕ) (ds : Items) (b l : ℕ) (d : Data)
    → get_item b ds ≡ Some d → length_at (all_shorter may ends i ds) b ≡ Some l
    → (k : ℕ) → k ≡ i + b → IsLess l (get_or ends k 0) d
less_at may ends i no_items b l d is there k same = cc
less_at may ends i (item e ds) zero l d is there k same =
    let here : e ≡ d = cc in
    let at : k ≡ i = same ∙ omega arith in
    subst (λ d. IsLess l (get_or ends k 0) d) here
    (subst (λ (n : ℕ). IsLess l (get_or ends n 0) e) (sym at)
    (is_less (may i) (get_or ends i 0) l e there))
less_at may ends i (item e ds) (suc b) l d is there k same =
    less_at may ends (i + 1) ds b l d is there k (same ∙ omega arith)

-- buffer b is there, and may become shorter
pub record MayBeCut (may : ℕ → Bool) (ds : Items) (b k : ℕ) : Type 0 where
  pub there : b < items_len ds
  pub holds : may k ≡ true

is_may : (b : Bool) (end l : ℕ) (d : Data) → shorter_if b end d ≡ Some l → b ≡ true
is_may true end l d there = refl
is_may false end l d there = cc

may_be_cut : (may : ℕ → Bool) (ends : List ℕ) (i : ℕ) (ds : Items) (b l : ℕ)
    → length_at (all_shorter may ends i ds) b ≡ Some l → (k : ℕ) → k ≡ i + b
    → MayBeCut may ds b k
may_be_cut may ends i no_items b l there k same = cc
may_be_cut may ends i (item e ds) zero l there k same =
    let at : k ≡ i = same ∙ omega arith in
    record {
      there = omega arith;
      holds = ap may at ∙ is_may (may i) (get_or ends i 0) l e there;
    }
may_be_cut may ends i (item e ds) (suc b) l there k same =
    let later = may_be_cut may ends (i + 1) ds b l there k (same ∙ omega arith) in
    record { there = omega (arith, later.there); holds = later.holds }

item_there : (b : ℕ) (ds : Items) → b < items_len ds → (e : Data) × (get_item b ds ≡ Some e)
item_there b no_items h = absurd (omega arith)
item_there zero (item d ds) h = (d, refl)
item_there (suc b) (item d ds) h = item_there b ds (omega arith)

-- ---- bytes in views that stay

index_is : (b : ℕ) (o : Option ℕ) → is_index b o ≡ true → o ≡ Some b
index_is b None is = cc
index_is b (Some i) is = ap Some (eqb-true i b is)

-- a byte in one of these views is in front of the end of its buffer
in_reached : (ds : Items) (ends : List ℕ) (b i : ℕ) → is_in_some b i ds ≡ true → b < length ends
    → i < get_or (folded raised_by ds ends) b 0
in_reached no_items ends b i is h = cc
in_reached (item d ds) ends b i is h =
    let o = size_at (codes "buffer") d in
    let within = subst (λ (k : ℕ). b < k) (sym (as_long o (view_end d) ends)) h in
    in_if (is_in b i d) refl is (λ later. in_reached ds (raised_by d ends) b i later within) where
      in_if : (t : Bool) → is_in b i d ≡ t → (if t then true else is_in_some b i ds) ≡ true
          → (is_in_some b i ds ≡ true → i < get_or (folded raised_by ds (raised_by d ends)) b 0)
          → i < get_or (folded raised_by ds (raised_by d ends)) b 0
      in_if true here is later =
          let o = size_at (codes "buffer") d in
          let from = size_or_zero (codes "byteOffset") d in
          let parts = and_parts (is_index b o) (is_between from (view_end d) i) here in
          let before = ltb-true i (view_end d)
          (and_parts (nat_le from i) (nat_lt i (view_end d)) parts.1).1 in
          let ends_there = all_no_less ds (raised_by d ends) b (view_end d)
          (reached o ends b (view_end d) (index_is b o parts.0) h) in
          omega (arith, before, ends_there)
      in_if false here is later = later is

-- ---- documents

module _ (n : ℕ) (d : Data) (buffers : List (List ℕ)) where
  abbrev gone : Items
  gone = drop_items n (items_at (codes "bufferViews") d)

  abbrev left : Items
  left = take_items n (items_at (codes "bufferViews") d)

  abbrev count : ℕ
  count = count_at (codes "buffers") d

  abbrev marks : List Bool
  marks = folded marked_buffer gone (replicate count false)

  abbrev pub ends : List ℕ
  ends = folded raised_by left (replicate count 0)

  abbrev may : ℕ → Bool
  may b = get_or marks b false && all_may_go gone b (get_or buffers b []) (get_or ends b 0)

  less_in : (buffer : Data) (b l : ℕ) → get_item b (items_at (codes "buffers") d) ≡ Some buffer
      → length_at (lengths n d buffers) b ≡ Some l → IsLess l (get_or ends b 0) buffer
  less_in buffer b l there is =
      less_at may ends 0 (items_at (codes "buffers") d) b l buffer there is b (omega arith)

  module _ (b l : ℕ) (is : length_at (lengths n d buffers) b ≡ Some l) where
    cut_there : MayBeCut may (items_at (codes "buffers") d) b b
    cut_there = may_be_cut may ends 0 (items_at (codes "buffers") d) b l is b (omega arith)

    -- a new length is no less than the end of the views that stay
    pub reaches_end : get_or ends b 0 ≤ l
    reaches_end =
        let found = item_there b (items_at (codes "buffers") d) cut_there.there in
        (less_in found.0 b l found.1 is).reaches

    -- and all that stands behind it may go
    pub behind_goes : all_may_go gone b (get_or buffers b []) (get_or ends b 0) ≡ true
    behind_goes =
        (and_parts (get_or marks b false)
        (all_may_go gone b (get_or buffers b []) (get_or ends b 0)) cut_there.holds).1

    -- a byte in a view that stays is in front of it
    pub in_front : (i : ℕ) → is_in_some b i left ≡ true → i < l
    in_front i in_left =
        let within : b < length (replicate {A = ℕ} count 0) =
        subst (λ (k : ℕ). b < k) (sym (length-replicate {A = ℕ} count 0)) cut_there.there in
        let before = in_reached left (replicate count 0) b i in_left within in
        let reaches = reaches_end in
        omega (arith, before, reaches)

-- where the buffer of a view that stays becomes shorter, the view ends in it
pub ends_within : (n : ℕ) (d e buffer : Data) (buffers : List (List ℕ)) (j b l : ℕ) → j < n
    → get_item j (items_at (codes "bufferViews") d) ≡ Some e
    → size_at (codes "buffer") e ≡ Some b → b < count_at (codes "buffers") d
    → get_item b (items_at (codes "buffers") d) ≡ Some buffer
    → length_at (lengths n d buffers) b ≡ Some l → IsLess l (view_end e) buffer
ends_within n d e buffer buffers j b l below view_there names h there is =
    let views = items_at (codes "bufferViews") d in
    let count = count_at (codes "buffers") d in
    let less = less_in n d buffers buffer b l there is in
    let within : b < length (replicate {A = ℕ} count 0) =
    subst (λ (k : ℕ). b < k) (sym (length-replicate {A = ℕ} count 0)) h in
    let reaches = all_reached n views (replicate count 0) j b e below view_there names within in
    record {
      some = less.some;
      reaches = omega (arith, less.reaches, reaches);
      less = less.less;
      small = less.small;
    }

-- a length that is there is at least one, and less than what the buffer declares
pub lengths_less : (n : ℕ) (d buffer : Data) (buffers : List (List ℕ)) (b l : ℕ)
    → get_item b (items_at (codes "buffers") d) ≡ Some buffer
    → length_at (lengths n d buffers) b ≡ Some l → IsLess l 0 buffer
lengths_less n d buffer buffers b l there is =
    let less = less_in n d buffers buffer b l there is in
    record { some = less.some; reaches = omega arith; less = less.less; small = less.small }
