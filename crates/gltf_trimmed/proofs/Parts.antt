-- The parts of an accessor, over all bytes and over what is left.
use Rattle.std.proofs.Common.{◌≡◌, ℕ, ◌+◌, ◌-◌, ◌*◌, ◌^◌, ◌<◌, ◌≤◌, List, ◌++◌, length, drop}
use Rattle.std.proofs.Common.{Option, Some, None, refl, sym, ap, subst, ◌∙◌, arith, length-append}
use Rattle.std.proofs.Common.{slice_get, option_map, take, zero, suc, [], ◌∷◌}
use Rattle.std.proofs.Math.Nat.{mul-le-mul_left}
use Rattle.std.specs.Prelude.{⊤}
use Rattle.gltf_json_geometry.specs.declared.buffer.View.{View}
use Rattle.gltf_items.specs.Reading.{ReadsFront}
use Rattle.gltf_data.specs.Answers.{answer_for}
use Rattle.gltf_data.specs.Parts.{Part, part_of, stride, view_offset, address, Fits, FitsIn}
use Rattle.gltf_data.specs.Parts.{addressed, items_in, PartReadable, BaseReadable, part_items}
use Rattle.gltf_data.specs.Parts.{base_items}
use Rattle.gltf_trimmed.proofs.Bytes.{value_in_front, same_below}
use Rattle.gltf_trimmed.proofs.Left.{IsLeft, Whole, Front}
use Rattle.gltf_trimmed.proofs.Rows.{within}

module _ (v : View) (o n size : ℕ) where
  abbrev part : Part
  part = part_of v o n size

  module _ (front more : List ℕ) (lies : view_offset v + v.byte_length ≤ length front) where
    fits_longer : (bytes : List ℕ) → length front ≤ length bytes → (other : List ℕ)
        → Fits part other → Fits part bytes
    fits_longer bytes long other fits = record {
      some = fits.some;
      apart = fits.apart;
      view_within = omega (arith, long, lies);
      items_within = fits.items_within;
    }

    front_shorter : length front ≤ length (front ++ more)
    front_shorter = let long = length-append front more in omega (arith, long)

    size_fits : Fits part (front ++ more) → size ≤ length front
    size_fits fits =
        let items = fits.items_within in
        omega (arith, items, lies)

    items_front : {X : Type 0} (value : List ℕ → X) → ReadsFront size value
        → Fits part (front ++ more)
        → addressed value part (front ++ more) ≡ addressed value part front
    unfolding addressed
    items_front value reads fits =
        same_below (λ i. value (drop (address part i) (front ++ more)))
        (λ i. value (drop (address part i) front)) 0 n
        (λ i h.
        let items = fits.items_within in
        let far : stride v size * i ≤ stride v size * (n - 1) =
        mul-le-mul_left (stride v size) (omega arith) in
        value_in_front size value reads front more (address part i) (omega arith))

  ready_after : (x y : Option (List ℕ)) → IsLeft v x y → FitsIn part x → FitsIn part y
  ready_after x y (Whole same) fits = subst (FitsIn part) same fits
  ready_after x y (Front front back more x_is y_is lies small) fits =
      subst (FitsIn part) (sym y_is)
      (fits_longer front more lies (front ++ more) (front_shorter front more lies) (front ++ back)
      (subst (FitsIn part) x_is fits))

  ready_before : (x y : Option (List ℕ)) → IsLeft v x y → FitsIn part y → FitsIn part x
  ready_before x y (Whole same) fits = subst (FitsIn part) (sym same) fits
  ready_before x y (Front front back more x_is y_is lies small) fits =
      subst (FitsIn part) (sym x_is)
      (fits_longer front back lies (front ++ back) (front_shorter front back lies) (front ++ more)
      (subst (FitsIn part) y_is fits))

  in_same : {X : Type 0} (value : List ℕ → X) → (size < 2 ^ 64 - 1 → ReadsFront size value)
      → (x y : Option (List ℕ)) → IsLeft v x y → FitsIn part x
      → items_in value part x ≡ items_in value part y
  in_same value reads x y (Whole same) fits = ap (items_in value part) same
  in_same value reads x y (Front front back more x_is y_is lies small) fits =
      let fit = subst (FitsIn part) x_is fits in
      let short = size_fits front back lies fit in
      let front_reads = reads (omega (arith, short, small)) in
      let fit_after = fits_longer front more lies (front ++ more) (front_shorter front more lies)
      (front ++ back) fit in
      ap (items_in value part) x_is
      ∙ items_front front back lies value front_reads fit
      ∙ sym (items_front front more lies value front_reads fit_after)
      ∙ ap (items_in value part) (sym y_is)

-- ---- a part that may be absent

abbrev pub Answer : Type 0
Answer = ℕ → Option (List ℕ)

-- a view stays, and so do its bytes
pub record Stays (old new : Answer) (v w : View) : Type 0 where
  pub same : v ≡ w
  pub left : IsLeft v (old v.buffer) (new v.buffer)

-- so do both, or neither is there
abbrev pub StaysAt : Answer → Answer → Option View → Option View → Type 0
StaysAt old new None None = ⊤
StaysAt old new None (Some w) = ⊥
StaysAt old new (Some v) None = ⊥
StaysAt old new (Some v) (Some w) = Stays old new v w

abbrev pub part_at : Option View → ℕ → ℕ → ℕ → Option Part
part_at x o n size = option_map (λ v. part_of v o n size) x

abbrev pub Ready : Answer → Option Part → Type 0
Ready answer p = PartReadable p (answer_for answer p)

abbrev pub BaseReady : Answer → ℕ → Option Part → Type 0
BaseReady answer count p = BaseReadable count p (answer_for answer p)

module _ (old new : Answer) (o n size : ℕ) where
  -- v in place of w
  over_same : (v w : View) → v ≡ w → FitsIn (part_of v o n size) (new v.buffer)
      → FitsIn (part_of w o n size) (new w.buffer)
  over_same v w same fits =
      subst (λ (v : View). FitsIn (part_of v o n size) (new v.buffer)) same fits

  after_at : (v w : View) → Stays old new v w → FitsIn (part_of v o n size) (old v.buffer)
      → FitsIn (part_of w o n size) (new w.buffer)
  after_at v w m fits =
      over_same v w m.same (ready_after v o n size (old v.buffer) (new v.buffer) m.left fits)

  before_at : (v w : View) → Stays old new v w → FitsIn (part_of w o n size) (new w.buffer)
      → FitsIn (part_of v o n size) (old v.buffer)
  before_at v w m fits =
      ready_before v o n size (old v.buffer) (new v.buffer) m.left
      (over_same w v (sym m.same) fits)

  pub part_after : (x y : Option View) → StaysAt old new x y
      → Ready old (part_at x o n size) → Ready new (part_at y o n size)
  part_after None None m ready = ready
  part_after None (Some w) m ready = absurd m
  part_after (Some v) None m ready = absurd m
  part_after (Some v) (Some w) m ready = after_at v w m ready

  pub part_before : (x y : Option View) → StaysAt old new x y
      → Ready new (part_at y o n size) → Ready old (part_at x o n size)
  part_before None None m ready = ready
  part_before None (Some w) m ready = absurd m
  part_before (Some v) None m ready = absurd m
  part_before (Some v) (Some w) m ready = before_at v w m ready

  pub base_after : (count : ℕ) (x y : Option View) → StaysAt old new x y
      → BaseReady old count (part_at x o n size) → BaseReady new count (part_at y o n size)
  base_after count None None m ready = ready
  base_after count None (Some w) m ready = absurd m
  base_after count (Some v) None m ready = absurd m
  base_after count (Some v) (Some w) m ready = after_at v w m ready

  pub base_before : (count : ℕ) (x y : Option View) → StaysAt old new x y
      → BaseReady new count (part_at y o n size) → BaseReady old count (part_at x o n size)
  base_before count None None m ready = ready
  base_before count None (Some w) m ready = absurd m
  base_before count (Some v) None m ready = absurd m
  base_before count (Some v) (Some w) m ready = before_at v w m ready

  module _ {X : Type 0} (value : List ℕ → X) (reads : size < 2 ^ 64 - 1 → ReadsFront size value)
    where
      in_both : (v w : View) → Stays old new v w → FitsIn (part_of v o n size) (old v.buffer)
          → items_in value (part_of v o n size) (old v.buffer)
          ≡ items_in value (part_of w o n size) (new w.buffer)
      in_both v w m fits =
          in_same v o n size value reads (old v.buffer) (new v.buffer) m.left fits
          ∙ ap (λ (v : View). items_in value (part_of v o n size) (new v.buffer)) m.same

      pub part_same : (x y : Option View) → StaysAt old new x y → Ready old (part_at x o n size)
          → part_items value (part_at x o n size) (answer_for old (part_at x o n size))
          ≡ part_items value (part_at y o n size) (answer_for new (part_at y o n size))
      part_same None None m ready = refl
      part_same None (Some w) m ready = absurd m
      part_same (Some v) None m ready = absurd m
      part_same (Some v) (Some w) m ready = in_both v w m ready

      pub base_same : (count : ℕ) (x y : Option View) → StaysAt old new x y
          → BaseReady old count (part_at x o n size)
          → base_items value (part_at x o n size) (answer_for old (part_at x o n size))
          ≡ base_items value (part_at y o n size) (answer_for new (part_at y o n size))
      base_same count None None m ready = refl
      base_same count None (Some w) m ready = absurd m
      base_same count (Some v) None m ready = absurd m
      base_same count (Some v) (Some w) m ready = ap (λ x. Some x) (in_both v w m ready)

-- ---- the first views of a list

pub first_get : (n i : ℕ) (vs : List View) → i < n → slice_get (take n vs) i ≡ slice_get vs i
first_get zero i vs h = absurd (omega arith)
first_get (suc n) i [] h = refl
first_get (suc n) zero (v ∷ vs) h = refl
first_get (suc n) (suc i) (v ∷ vs) h = first_get n i vs (omega arith)

pub none_first : (n i : ℕ) (vs : List View) → slice_get vs i ≡ None
    → slice_get (take n vs) i ≡ None
none_first zero i vs none = refl
none_first (suc n) i [] none = refl
none_first (suc n) zero (v ∷ vs) none = cc
none_first (suc n) (suc i) (v ∷ vs) none = none_first n i vs none

module _ (old new : Answer) (n : ℕ) (vs : List View)
    (left : (i : ℕ) (v : View) → slice_get vs i ≡ Some v → i < n
    → IsLeft v (old v.buffer) (new v.buffer)) where
  stays_in : (i : ℕ) → (i < length vs → i < n) → (o : Option View) → slice_get vs i ≡ o
      → StaysAt old new (slice_get vs i) (slice_get (take n vs) i)
  stays_in i below None is =
      subst (λ (o : Option View). StaysAt old new (slice_get vs i) o)
      (sym (none_first n i vs is))
      (subst (λ (o : Option View). StaysAt old new o None) (sym is) tt)
  stays_in i below (Some v) is =
      let inside = below (within vs i v is) in
      subst (λ (o : Option View). StaysAt old new (slice_get vs i) o)
      (sym (first_get n i vs inside ∙ is))
      (subst (λ (o : Option View). StaysAt old new o (Some v)) (sym is)
      record { same = refl; left = left i v is inside })

  -- a view that is among the first, where it is there, stays
  pub stays_at : (i : ℕ) → (i < length vs → i < n)
      → StaysAt old new (slice_get vs i) (slice_get (take n vs) i)
  stays_at i below = stays_in i below (slice_get vs i) refl
