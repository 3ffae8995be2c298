-- Ranges that compare as equal are one, and are those of accessors that read the same.
use Rattle.std.proofs.Common.{◌≡◌, ◌⊎◌, ◌==◌, ℕ, List, Option, Some, None, option_map, inl, inr}
use Rattle.std.proofs.Common.{refl, sym, ap, ◌∙◌, arith, ⊎_elim, unwrap_or}
use Rattle.std.specs.Prelude.{if◌then◌else◌, slice_get}
use Rattle.std.specs.Ordering.{nat_cmp, ordering_then}
use Rattle.std.specs.declared.cmp.Ordering.{Ordering}
use Rattle.std.specs.declared.cmp.Ordering.TheVariants.{Less, Equal, Greater}
use Rattle.std.proofs.lemmas.Cmp.{nat_cmp_total, tied_itself}
use Rattle.std.proofs.lemmas.Map.Lookups.{exact_unsigned}
use Rattle.gltf_json_record.specs.declared.validation.Checked.{Checked}
use Rattle.gltf_json_record.specs.declared.validation.Checked.TheVariants.{Invalid, Valid}
use Rattle.gltf_json_geometry.specs.declared.accessor.Accessor.{Accessor}
use Rattle.gltf_json_geometry.specs.declared.accessor.ComponentType.{ComponentType}
use Rattle.gltf_json_geometry.specs.declared.accessor.ComponentType.TheVariants.{I8, U8, I16, U16}
use Rattle.gltf_json_geometry.specs.declared.accessor.ComponentType.TheVariants.{U32, F32}
use Rattle.gltf_json_geometry.specs.declared.accessor.«Type» as shape
use Rattle.gltf_json_geometry.specs.declared.accessor.sparse.Sparse.{Sparse}
use Rattle.gltf_ranges.specs.Alike.{AreAlike, ReadTheSame}
use Rattle.gltf_ranges.specs.Ranges.{component_number, shape_number, plain, range_in}
use Rattle.gltf_ranges.specs.Ranges.{range_of, range_cmp}
use Rattle.gltf_ranges.specs.declared.range.Range.{Range}

-- ---- ranges that compare as equal

both_equal : (o p : Ordering) → ordering_then o p ≡ Equal → (o ≡ Equal) × (p ≡ Equal)
both_equal Less p is = cc
both_equal Equal p is = (refl, is)
both_equal Greater p is = cc

abbrev of_numbers : ℕ → ℕ → ℕ → ℕ → ℕ → ℕ → Range
of_numbers own view offset count component shape = record {
  own = own;
  view = view;
  offset = offset;
  count = count;
  component = component;
  shape = shape;
}

pub exact : (a b : Range) → range_cmp a b ≡ Equal → a ≡ b
exact a b is =
    let own = both_equal (nat_cmp a.own b.own) (ordering_then (nat_cmp a.view b.view)
    (ordering_then (nat_cmp a.offset b.offset) (ordering_then (nat_cmp a.count b.count)
    (ordering_then (nat_cmp a.component b.component) (nat_cmp a.shape b.shape))))) is in
    let view = both_equal (nat_cmp a.view b.view) (ordering_then (nat_cmp a.offset b.offset)
    (ordering_then (nat_cmp a.count b.count) (ordering_then (nat_cmp a.component b.component)
    (nat_cmp a.shape b.shape)))) own.1 in
    let offset = both_equal (nat_cmp a.offset b.offset) (ordering_then (nat_cmp a.count b.count)
    (ordering_then (nat_cmp a.component b.component) (nat_cmp a.shape b.shape))) view.1 in
    let count = both_equal (nat_cmp a.count b.count)
    (ordering_then (nat_cmp a.component b.component) (nat_cmp a.shape b.shape)) offset.1 in
    let component = both_equal (nat_cmp a.component b.component) (nat_cmp a.shape b.shape) count.1
    in
    ap (λ (n : ℕ). of_numbers n a.view a.offset a.count a.component a.shape)
    (exact_unsigned a.own b.own own.0)
    ∙ ap (λ (n : ℕ). of_numbers b.own n a.offset a.count a.component a.shape)
    (exact_unsigned a.view b.view view.0)
    ∙ ap (λ (n : ℕ). of_numbers b.own b.view n a.count a.component a.shape)
    (exact_unsigned a.offset b.offset offset.0)
    ∙ ap (λ (n : ℕ). of_numbers b.own b.view b.offset n a.component a.shape)
    (exact_unsigned a.count b.count count.0)
    ∙ ap (λ (n : ℕ). of_numbers b.own b.view b.offset b.count n a.shape)
    (exact_unsigned a.component b.component component.0)
    ∙ ap (λ (n : ℕ). of_numbers b.own b.view b.offset b.count b.component n)
    (exact_unsigned a.shape b.shape component.1)

itself : (n : ℕ) (o : Ordering) → ordering_then (nat_cmp n n) o ≡ o
itself n o = ap (λ (p : Ordering). ordering_then p o) (tied_itself nat_cmp_total n)

pub equal_itself : (a : Range) → range_cmp a a ≡ Equal
equal_itself a =
    itself a.own _ ∙ itself a.view _ ∙ itself a.offset _ ∙ itself a.count _ ∙ itself a.component _
    ∙ tied_itself nat_cmp_total a.shape

-- ---- types, by their numbers

component_at : ℕ → Checked ComponentType
component_at n =
    if n == 1 then Valid I8 else if n == 2 then Valid U8 else if n == 3 then Valid I16
    else if n == 4 then Valid U16 else if n == 5 then Valid U32 else if n == 6 then Valid F32
    else Invalid

component_back : (c : Checked ComponentType) → component_at (component_number c) ≡ c
unfolding component_at
component_back Invalid = refl
component_back (Valid I8) = refl
component_back (Valid U8) = refl
component_back (Valid I16) = refl
component_back (Valid U16) = refl
component_back (Valid U32) = refl
component_back (Valid F32) = refl

same_component : (c d : Checked ComponentType) → component_number c ≡ component_number d → c ≡ d
same_component c d is = sym (component_back c) ∙ ap component_at is ∙ component_back d

shape_at : ℕ → Checked shape.«Type»
shape_at n =
    if n == 1 then Valid shape.TheVariants.Scalar else if n == 2 then Valid shape.TheVariants.Vec2
    else if n == 3 then Valid shape.TheVariants.Vec3
    else if n == 4 then Valid shape.TheVariants.Vec4
    else if n == 5 then Valid shape.TheVariants.Mat2
    else if n == 6 then Valid shape.TheVariants.Mat3
    else if n == 7 then Valid shape.TheVariants.Mat4 else Invalid

shape_back : (c : Checked shape.«Type») → shape_at (shape_number c) ≡ c
unfolding shape_at
shape_back Invalid = refl
shape_back (Valid shape.TheVariants.Scalar) = refl
shape_back (Valid shape.TheVariants.Vec2) = refl
shape_back (Valid shape.TheVariants.Vec3) = refl
shape_back (Valid shape.TheVariants.Vec4) = refl
shape_back (Valid shape.TheVariants.Mat2) = refl
shape_back (Valid shape.TheVariants.Mat3) = refl
shape_back (Valid shape.TheVariants.Mat4) = refl

same_shape : (c d : Checked shape.«Type») → shape_number c ≡ shape_number d → c ≡ d
same_shape c d is = sym (shape_back c) ∙ ap shape_at is ∙ shape_back d

-- ---- accessors with one range

alike_in : (i j : ℕ) (a b : Accessor) (v w : Option ℕ) (s t : Option Sparse) → a.buffer_view ≡ v
    → b.buffer_view ≡ w → a.sparse ≡ s → b.sparse ≡ t → range_in i a v s ≡ range_in j b w t
    → (i ≡ j) ⊎ AreAlike a b
alike_in i j a b (Some v) (Some w) None None is_v is_w is_s is_t same = inr record {
  view = v;
  in_view = is_v;
  in_that_view = is_w ∙ ap (λ (x : ℕ). Some x) (sym (ap (λ (r : Range). r.view) same));
  offset = ap (λ (r : Range). r.offset) same;
  count = ap (λ (r : Range). r.count) same;
  component =
      same_component a.component_type b.component_type (ap (λ (r : Range). r.component) same);
  shape = same_shape a.type_ b.type_ (ap (λ (r : Range). r.shape) same);
  whole = is_s;
  that_whole = is_t;
}
alike_in i j a b (Some v) w None t is_v is_w is_s is_t same =
    absurd (omega (arith, ap (λ (r : Range). r.own) same))
alike_in i j a b v (Some w) s None is_v is_w is_s is_t same =
    absurd (omega (arith, ap (λ (r : Range). r.own) same))
alike_in i j a b v w s t is_v is_w is_s is_t same = inl (ap (λ (r : Range). r.view) same)

abbrev of_parts : ℕ → ℕ → ℕ → Checked ComponentType → Checked shape.«Type» → Range
of_parts view offset count component shape = record {
  own = 0;
  view = view;
  offset = offset;
  count = count;
  component = component_number component;
  shape = shape_number shape;
}

plain_alike : (a b : Accessor) (h : AreAlike a b) → plain h.view a ≡ plain h.view b
plain_alike a b h =
    ap (λ (n : ℕ). of_parts h.view n a.count a.component_type a.type_) h.offset
    ∙ ap (λ (n : ℕ). of_parts h.view (unwrap_or b.byte_offset 0) n a.component_type a.type_) h.count
    ∙ ap (λ (c : Checked ComponentType). of_parts h.view (unwrap_or b.byte_offset 0) b.count c
    a.type_) h.component
    ∙ ap (λ (c : Checked shape.«Type»). of_parts h.view (unwrap_or b.byte_offset 0) b.count
    b.component_type c) h.shape

in_view_alone : (i view : ℕ) (a : Accessor) → a.buffer_view ≡ Some view → a.sparse ≡ None
    → range_of i a ≡ plain view a
in_view_alone i view a is_v is_s =
    ap (λ (v : Option ℕ). range_in i a v a.sparse) is_v
    ∙ ap (λ (s : Option Sparse). range_in i a (Some view) s) is_s

one_range : (i j : ℕ) (a b : Accessor) → AreAlike a b → range_of i a ≡ range_of j b
one_range i j a b h =
    in_view_alone i h.view a h.in_view h.whole ∙ plain_alike a b h
    ∙ sym (in_view_alone j h.view b h.in_that_view h.that_whole)

-- ---- the same of the accessors at two indices

-- the range of the accessor at an index
abbrev pub range_at : List Accessor → ℕ → Option Range
range_at accessors i = option_map (range_of i) (slice_get accessors i)

same_in : (accessors : List Accessor) (i j : ℕ) (q : Range) (a b : Option Accessor)
    → slice_get accessors i ≡ a → slice_get accessors j ≡ b → option_map (range_of i) a ≡ Some q
    → option_map (range_of j) b ≡ Some q → ReadTheSame accessors i j
same_in accessors i j q (Some a) (Some b) at_i at_j is_i is_j =
    ⊎_elim (λ one. inl one)
    (λ alike. inr record { a = a; b = b; first = at_i; second = at_j; alike = alike })
    (alike_in i j a b a.buffer_view b.buffer_view a.sparse b.sparse refl refl refl refl
    (let same : range_of i a ≡ range_of j b = cc in same))
same_in accessors i j q None b at_i at_j is_i is_j = cc
same_in accessors i j q a None at_i at_j is_i is_j = cc

pub read_the_same : (accessors : List Accessor) (i j : ℕ) (q : Range)
    → range_at accessors i ≡ Some q → range_at accessors j ≡ Some q → ReadTheSame accessors i j
read_the_same accessors i j q is_i is_j =
    same_in accessors i j q (slice_get accessors i) (slice_get accessors j) refl refl is_i is_j

pub have_one_range : (accessors : List Accessor) (i j : ℕ) → ReadTheSame accessors i j
    → range_at accessors i ≡ range_at accessors j
have_one_range accessors i j same =
    ⊎_elim (λ one. ap (λ (k : ℕ). range_at accessors k) one)
    (λ two.
    ap (λ (a : Option Accessor). option_map (range_of i) a) two.first
    ∙ ap (λ (q : Range). Some q) (one_range i j two.a two.b two.alike)
    ∙ sym (ap (λ (b : Option Accessor). option_map (range_of j) b) two.second))
    same
