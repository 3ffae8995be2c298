-- What the extent of the numbers of items tells of them, by induction on the items.
use Rattle.std.proofs.Common.{◌≡◌, ◌⊎◌, inl, inr, Bool, true, false, not, ◌&&◌, ◌||◌, List, [], ◌∷◌}
use Rattle.std.proofs.Common.{refl, ap, sym, ◌∙◌, ⊎_elim, Option, Some, None, subst}
use Rattle.std.specs.List.{list_any}
use Rattle.std.proofs.lemmas.Bool.{true≢false, false_from_ne_true}
use Rattle.std.proofs.lemmas.Float.{T_from_true, le_left, le_right, eq-not_lt, eq_flip}
use Rattle.std.specs.Float.{Float, NotNan}
use Rattle.std.specs.Float.Ieee.{nan, inf, fin, is_nan, lt, le, eq}
use Rattle.gltf_inspect_values.specs.declared.extent.Extent.{Extent}
use Rattle.gltf_inspect_values.specs.Components.{is_below, is_above, is_equal}
use Rattle.gltf_inspect_values.specs.Extents.{nothing, widened, widened_over, extent, has_number}
use Rattle.gltf_inspect_values.specs.Extents.{least_is, greatest_is}
use Rattle.gltf_inspect_values.proofs.Floats.{least_below, greatest_above, has_further}
use Rattle.gltf_inspect_values.proofs.Floats.{least_same, greatest_same}

-- an extent has a number, or is that of none
abbrev Sound : Extent → Type 0
Sound e = (has_number e ≡ true) ⊎ (e ≡ nothing)

or_none : (b : Bool) → b ≡ (b || false)
or_none true = refl
or_none false = refl

or_more : (a b c : Bool) → ((a || b) || c) ≡ (a || (b || c))
or_more true b c = refl
or_more false b c = refl

and_all : (b : Bool) → b ≡ (b && true)
and_all true = refl
and_all false = refl

and_none : (b : Bool) → (b && false) ≡ false
and_none true = refl
and_none false = refl

nothing_above : NotNan nothing.least
unfolding is_nan
nothing_above = tt

nothing_below : NotNan nothing.greatest
unfolding is_nan
nothing_below = tt

least_number : (e : Extent) → Sound e → NotNan e.least
least_number e = ⊎_elim
    (λ (some : has_number e ≡ true). le_left e.least e.greatest (T_from_true (has_number e) some))
    (λ (none : e ≡ nothing). subst (λ (f : Extent). NotNan f.least) (sym none) nothing_above)

greatest_number : (e : Extent) → Sound e → NotNan e.greatest
greatest_number e = ⊎_elim
    (λ (some : has_number e ≡ true). le_right e.least e.greatest (T_from_true (has_number e) some))
    (λ (none : e ≡ nothing). subst (λ (f : Extent). NotNan f.greatest) (sym none) nothing_below)

-- what is not a number changes nothing
below_nan : (x : Float) → lt nan x ≡ false
unfolding lt
below_nan x = refl

above_nan : (x : Float) → lt x nan ≡ false
unfolding lt
above_nan nan = refl
above_nan (inf s) = refl
above_nan (fin s m e) = refl

same_nan : (x : Float) → eq nan x ≡ false
unfolding eq
same_nan x = refl

nan_adds_none : (e : Extent) → widened e (Some nan) ≡ e
nan_adds_none e = rw (below_nan e.least, above_nan e.greatest) refl

-- it is one, or is not
nan_or_not : (y : Float) → (y ≡ nan) ⊎ NotNan y
unfolding is_nan
nan_or_not nan = inl refl
nan_or_not (inf s) = inr tt
nan_or_not (fin s m e) = inr tt

sound_number : (e : Extent) (y : Float) → Sound e → NotNan y
    → has_number (widened e (Some y)) ≡ true
sound_number e y sound number =
    has_further e.least e.greatest y (least_number e sound) (greatest_number e sound) number

still_sound : (e : Extent) (found : Option Float) → Sound e → Sound (widened e found)
still_sound e None sound = sound
still_sound e (Some y) sound = ⊎_elim
    (λ (not_one : y ≡ nan). subst (λ (z : Float). Sound (widened e (Some z))) (sym not_one)
    (subst (λ (f : Extent). Sound f) (sym (nan_adds_none e)) sound))
    (λ (number : NotNan y). inl (sound_number e y sound number))
    (nan_or_not y)

sound_nothing : Sound nothing
sound_nothing = inr refl

-- the least number and what is below x, or the greatest one and what is above x
module _ {X : Type 0} (bound : Extent → Float) (past : Float → Option Float → Bool)
    (past_next : (e : Extent) (found : Option Float) (x : Float) → Sound e
    → past x (Some (bound (widened e found))) ≡ (past x (Some (bound e)) || past x found))
    (same_next : (e : Extent) (found : Option Float) (x : Float) → Sound e
    → past x (Some (bound (widened e found))) ≡ false
    → (eq (bound (widened e found)) x && has_number (widened e found))
    ≡ ((eq (bound e) x && has_number e) || is_equal x found))
    (apart : (m x : Float) → eq m x ≡ true → past x (Some m) ≡ false)
    (number : X → Option Float) where
  some_past : (e : Extent) (items : List X) (x : Float) → Sound e
      → past x (Some (bound (widened_over number e items)))
      ≡ (past x (Some (bound e)) || list_any (λ item. past x (number item)) items)
  some_past e [] x sound = or_none (past x (Some (bound e)))
  some_past e (item ∷ items) x sound =
      some_past (widened e (number item)) items x (still_sound e (number item) sound)
      ∙ ap (λ b. b || list_any (λ i. past x (number i)) items) (past_next e (number item) x sound)
      ∙ or_more (past x (Some (bound e))) (past x (number item))
      (list_any (λ i. past x (number i)) items)

  none_left : (out same there : Bool) → (same ≡ true → out ≡ false)
      → (same && there) ≡ (not (out || false) && ((same && there) || false))
  none_left true true there h = absurd (true≢false (h refl))
  none_left true false there h = refl
  none_left false true there h = or_none there
  none_left false false there h = refl

  one_more : (out out_now out_here outs same same_now here others : Bool)
      → out_now ≡ (out || out_here) → (out_now ≡ false → same_now ≡ (same || here))
      → (not (out_now || outs) && (same_now || others))
      ≡ (not (out || (out_here || outs)) && (same || (here || others)))
  one_more true out_now out_here outs same same_now here others now so = rw now refl
  one_more false out_now true outs same same_now here others now so = rw now refl
  one_more false out_now false outs same same_now here others now so =
      rw (now, so now) (ap (λ b. not outs && b) (or_more same here others))

  same_and_none_past : (e : Extent) (items : List X) (x : Float) → Sound e
      → (eq (bound (widened_over number e items)) x && has_number (widened_over number e items))
      ≡ (not (past x (Some (bound e)) || list_any (λ item. past x (number item)) items)
      && ((eq (bound e) x && has_number e) || list_any (λ item. is_equal x (number item)) items))
  same_and_none_past e [] x sound =
      none_left (past x (Some (bound e))) (eq (bound e) x) (has_number e) (apart (bound e) x)
  same_and_none_past e (item ∷ items) x sound =
      same_and_none_past (widened e (number item)) items x (still_sound e (number item) sound)
      ∙ one_more (past x (Some (bound e))) (past x (Some (bound (widened e (number item)))))
      (past x (number item)) (list_any (λ i. past x (number i)) items)
      (eq (bound e) x && has_number e)
      (eq (bound (widened e (number item))) x && has_number (widened e (number item)))
      (is_equal x (number item)) (list_any (λ i. is_equal x (number i)) items)
      (past_next e (number item) x sound) (same_next e (number item) x sound)

-- the least number, and what is below x
least_next : (e : Extent) (found : Option Float) (x : Float) → Sound e
    → is_below x (Some (widened e found).least) ≡ (is_below x (Some e.least) || is_below x found)
least_next e None x sound = or_none (lt e.least x)
least_next e (Some y) x sound = least_below e.least y x (least_number e sound)

-- what is not a number is none that is the same, either
nan_changes_none : (bound : Extent → Float) (e : Extent) (y x : Float) → y ≡ nan
    → (eq (bound (widened e (Some y))) x && has_number (widened e (Some y)))
    ≡ ((eq (bound e) x && has_number e) || is_equal x (Some y))
nan_changes_none bound e y x not_one =
    subst (λ (z : Float). (eq (bound (widened e (Some z))) x && has_number (widened e (Some z)))
    ≡ ((eq (bound e) x && has_number e) || is_equal x (Some z))) (sym not_one)
    (ap (λ (f : Extent). eq (bound f) x && has_number f) (nan_adds_none e)
    ∙ or_none (eq (bound e) x && has_number e)
    ∙ ap (λ b. (eq (bound e) x && has_number e) || b) (sym (same_nan x)))

-- with a number there is one
one_there : (bound : Extent → Float) (e : Extent) (y x : Float) → Sound e → NotNan y
    → (eq (bound (widened e (Some y))) x && has_number (widened e (Some y)))
    ≡ eq (bound (widened e (Some y))) x
one_there bound e y x sound number =
    ap (λ b. eq (bound (widened e (Some y))) x && b) (sound_number e y sound number)
    ∙ sym (and_all (eq (bound (widened e (Some y))) x))

least_same_next : (e : Extent) (found : Option Float) (x : Float) → Sound e
    → is_below x (Some (widened e found).least) ≡ false
    → least_is (widened e found) x ≡ (least_is e x || is_equal x found)
least_same_next e None x sound none = or_none (least_is e x)
least_same_next e (Some y) x sound none = ⊎_elim
    (λ (not_one : y ≡ nan). nan_changes_none (λ f. f.least) e y x not_one)
    (λ (number : NotNan y). one_there (λ f. f.least) e y x sound number
    ∙ least_same e.least y x (has_number e) (least_number e sound) number
    (⊎_elim (λ some. inl some)
    (λ (none_yet : e ≡ nothing). inr (ap (λ (f : Extent). f.least) none_yet)) sound)
    none)
    (nan_or_not y)

least_apart : (m x : Float) → eq m x ≡ true → is_below x (Some m) ≡ false
least_apart m x same =
    false_from_ne_true (lt m x) (λ below. eq-not_lt m x (T_from_true (eq m x) same)
    (T_from_true (lt m x) below))

-- the greatest number, and what is above x
greatest_next : (e : Extent) (found : Option Float) (x : Float) → Sound e
    → is_above x (Some (widened e found).greatest)
    ≡ (is_above x (Some e.greatest) || is_above x found)
greatest_next e None x sound = or_none (lt x e.greatest)
greatest_next e (Some y) x sound = greatest_above e.greatest y x (greatest_number e sound)

greatest_same_next : (e : Extent) (found : Option Float) (x : Float) → Sound e
    → is_above x (Some (widened e found).greatest) ≡ false
    → greatest_is (widened e found) x ≡ (greatest_is e x || is_equal x found)
greatest_same_next e None x sound none = or_none (greatest_is e x)
greatest_same_next e (Some y) x sound none = ⊎_elim
    (λ (not_one : y ≡ nan). nan_changes_none (λ f. f.greatest) e y x not_one)
    (λ (number : NotNan y). one_there (λ f. f.greatest) e y x sound number
    ∙ greatest_same e.greatest y x (has_number e) (greatest_number e sound) number
    (⊎_elim (λ some. inl some)
    (λ (none_yet : e ≡ nothing). inr (ap (λ (f : Extent). f.greatest) none_yet)) sound)
    none)
    (nan_or_not y)

greatest_apart : (m x : Float) → eq m x ≡ true → is_above x (Some m) ≡ false
greatest_apart m x same =
    false_from_ne_true (lt x m) (λ above. eq-not_lt x m (eq_flip m x (T_from_true (eq m x) same))
    (T_from_true (lt x m) above))

-- of no numbers there is nothing to tell
no_less : (x : Float) → lt nothing.least x ≡ false
unfolding lt
no_less nan = refl
no_less (inf s) = refl
no_less (fin s m e) = refl

no_more : (x : Float) → lt x nothing.greatest ≡ false
unfolding lt
no_more nan = refl
no_more (inf true) = refl
no_more (inf false) = refl
no_more (fin s m e) = refl

none_there : has_number nothing ≡ false
unfolding le lt eq
none_there = refl

module _ {X : Type 0} (number : X → Option Float) (items : List X) (x : Float) where
  -- some number is below x exactly where the least one is
  pub least_tells : lt (extent number items).least x
      ≡ list_any (λ item. is_below x (number item)) items
  least_tells =
      some_past (λ f. f.least) is_below least_next least_same_next least_apart number nothing
      items x sound_nothing
      ∙ ap (λ b. b || list_any (λ item. is_below x (number item)) items) (no_less x)

  -- x is the least one exactly where none is below it, and one is the same
  pub least_is_tells : least_is (extent number items) x
      ≡ (not (list_any (λ item. is_below x (number item)) items)
      && list_any (λ item. is_equal x (number item)) items)
  least_is_tells =
      same_and_none_past (λ f. f.least) is_below least_next least_same_next least_apart number
      nothing items x sound_nothing
      ∙ rw (no_less x, none_there, and_none (eq nothing.least x)) refl

  -- the same of the greatest one
  pub greatest_tells : lt x (extent number items).greatest
      ≡ list_any (λ item. is_above x (number item)) items
  greatest_tells =
      some_past (λ f. f.greatest) is_above greatest_next greatest_same_next greatest_apart number
      nothing items x sound_nothing
      ∙ ap (λ b. b || list_any (λ item. is_above x (number item)) items) (no_more x)

  pub greatest_is_tells : greatest_is (extent number items) x
      ≡ (not (list_any (λ item. is_above x (number item)) items)
      && list_any (λ item. is_equal x (number item)) items)
  greatest_is_tells =
      same_and_none_past (λ f. f.greatest) is_above greatest_next greatest_same_next greatest_apart
      number nothing items x sound_nothing
      ∙ rw (no_more x, none_there, and_none (eq nothing.greatest x)) refl
