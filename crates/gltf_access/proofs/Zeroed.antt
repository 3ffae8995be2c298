-- From the items of an accessor as they stand to the bytes of their components, with zeros where
-- there is no view.
use Rattle.std.proofs.Common.{◌≡◌, ℕ, zero, suc, ◌+◌, ◌-◌, ◌*◌, ◌^◌, ◌<◌, ◌≤◌, List, ◌++◌, length}
use Rattle.std.proofs.Common.{map, take, drop}
use Rattle.std.proofs.Common.{refl, sym, ap, subst, ◌∙◌, arith, Bool, true, false, true≢false}
use Rattle.std.specs.Prelude.{Option, Some, None, SomeIff, Result, Ok, Err, unwrap_or, is_none}
use Rattle.std.specs.Prelude.{MatchBool, if◌then◌else◌, nat_lt, nat_le, ◌&&◌, replicate, option_and_then}
use Rattle.std.proofs.lemmas.List.{length-replicate, replicate-append-replicate}
use Rattle.std.specs.Option.{option_map}
use Rattle.std.specs.List.{concat, range_with_len}
use Rattle.std.proofs.Math.Path.{fun_ext}
use Rattle.std.proofs.lemmas.Bool.{lt-ltb, ltb-true, le-leb, lt-leb, cases_lt}
use Rattle.std.proofs.Common.{inl, inr}
use Rattle.std.proofs.lemmas.Simd.{map-map}
use Rattle.gltf_json.specs.declared.root.Root.{Root}
use Rattle.gltf_json_geometry.specs.declared.buffer.View.{View}
use Rattle.gltf_json_geometry.specs.declared.accessor.Accessor.{Accessor}
use Rattle.gltf_json_geometry.specs.declared.accessor.sparse.Sparse.{Sparse}
use Rattle.gltf_items.specs.Sparse.{sparse}
use Rattle.gltf_items.specs.declared.item.Item.{Ghosts}
use Rattle.gltf_handles.specs.Sizes.{item_size}
use Rattle.gltf_data.specs.Answers.{Results, IsAnsweredFor, Reads, ReadsAlike}
use Rattle.gltf_data.specs.Parts.{Part, part_of, Answers, PartReadable, BaseReadable, address}
use Rattle.gltf_data.specs.Parts.{addressed, items_in, part_items, base_items, index_items}
use Rattle.gltf_data.specs.Parts.{base_part, view_at}
use Rattle.gltf_access.specs.Flat.{front, as_bytes, IsFlatIn, IsWritten}
use Rattle.gltf_access.specs.Components.{Takes, TakesZeroed, TakesComponents, as_components}
use Rattle.gltf_access.specs.Components.{padded_size, end_size, bare_size, components, step}
use Rattle.gltf_access.specs.Components.{ZeroedReadable, zeroed_items, is_zeros, zeros}
use Rattle.gltf_access.specs.Components.{spaced_part, base_at, values_at, answers_at, layout_of}
use Rattle.gltf_access.specs.Components.{AreComponentsIn}
use Rattle.gltf_access.specs.Taken.{TakesParts, PartsThere, taken_items, AreBareIn}
use Rattle.gltf_access.specs.declared.flat.NotWritten.{NotWritten}
use Rattle.gltf_access.specs.declared.flat.NotWritten.TheVariants.{Unreadable, NoRoom}
use Rattle.gltf_access.specs.declared.layout.Layout.{Layout}
use Rattle.gltf_access.proofs.Bare.{row_front, row_tight, row_zeros}
use Rattle.gltf_access.proofs.Mapped.{sparse_map}
use Rattle.gltf_access.proofs.Sizes.{bare_item, tight_ends, tight_size}
use Rattle.gltf_access.proofs.Spaced.{parts_of}

-- what follows from what is read by any answers
takes_to : {X Y : Type 0} {Gives : Results} {n size : ℕ} {r : Root} {a : Accessor}
    {s : Option Sparse} {P Q : Answers → Type 0} {read : Answers → List X}
    {other : Answers → List Y} {xs : Option (List X)} (ys : Option (List Y))
    → ((o : Answers) → SomeIff xs (P o) (read o) → SomeIff ys (Q o) (other o))
    → Takes Gives n size r a s P read xs → Takes Gives n size r a s Q other ys
takes_to {n = n} {size = size} {r = r} {a = a} {s = s} ys to h = record {
  answers = h.answers;
  asked = h.asked;
  exactly = to h.answers h.exactly;
  alike = λ always gives. to (answers_at always n size r a s) (h.alike always gives);
}

-- ---- without the padding

-- the bytes of an item, of which the first so many are looked at
abbrev made_of : ℕ → (List ℕ → List ℕ) → List ℕ → Ghosts (List ℕ)
made_of size value zero_item = record { size = size; value = value; zero_item = zero_item }

abbrev sized_as : ℕ → ℕ → Ghosts (List ℕ)
sized_as size n = made_of size (take n) (replicate n 0)

module _ (l : Layout) where
  short : l.column ≤ step l
  short = omega arith

  of_front : (bytes : List ℕ) → components l (take (end_size l) bytes) ≡ components l bytes
  of_front bytes =
      ap concat (row_front l.columns (step l) l.column (end_size l) bytes short (omega arith))

  of_zeros : components l (replicate (end_size l) 0) ≡ replicate (bare_size l) 0
  of_zeros = row_zeros l.columns (step l) l.column (end_size l) short (omega arith)

  in_part : (p : Part) (given : Option (List ℕ))
      → map (components l) (items_in (take (end_size l)) p given)
      ≡ items_in (components l) p given
  unfolding addressed
  in_part p None = refl
  in_part p (Some bytes) =
      map-map (components l) (λ (i : ℕ). take (end_size l) (drop (address p i) bytes))
      (range_with_len 0 p.count)
      ∙ ap (λ (f : ℕ → List ℕ). map f (range_with_len 0 p.count))
      (fun_ext (λ (i : ℕ). of_front (drop (address p i) bytes)))

  of_part : (part : Option Part) (given : Option (List ℕ))
      → map (components l) (part_items (take (end_size l)) part given)
      ≡ part_items (components l) part given
  of_part None given = refl
  of_part (Some p) given = in_part p given

  of_base : (part : Option Part) (given : Option (List ℕ))
      → option_map (map (components l)) (base_items (take (end_size l)) part given)
      ≡ base_items (components l) part given
  of_base None given = refl
  of_base (Some p) given = ap Some (in_part p given)

  module _ (n : ℕ) (r : Root) (a : Accessor) where
    of_items : (s : Option Sparse) (o : Answers)
        → map (components l) (taken_items n (sized_as (end_size l) (end_size l)) r a s o)
        ≡ taken_items n (as_components l) r a s o
    of_items None o = of_part (base_at n (end_size l) r a) o.base
    of_items (Some s) o =
        let value = take (end_size l) in
        let base = base_items value (base_at n (end_size l) r a) o.base in
        let values = part_items value (values_at n (end_size l) r s) o.values in
        let stored = index_items r s o.indices in
        sym (sparse_map (components l) (replicate (end_size l) 0) base a.count stored values)
        ∙ ap (λ z. sparse z (option_map (map (components l)) base) a.count stored
        (map (components l) values)) of_zeros
        ∙ ap (λ b. sparse (replicate (bare_size l) 0) b a.count stored
        (map (components l) values)) (of_base (base_at n (end_size l) r a) o.base)
        ∙ ap (λ v. sparse (replicate (bare_size l) 0)
        (base_items (components l) (base_at n (end_size l) r a) o.base) a.count stored v)
        (of_part (values_at n (end_size l) r s) o.values)

    bare_by : (s : Option Sparse) (xs : Option (List (List ℕ))) (o : Answers)
        → SomeIff xs (PartsThere n (end_size l) r a s o)
        (taken_items n (sized_as (end_size l) (end_size l)) r a s o)
        → SomeIff (option_map (map (components l)) xs) (PartsThere n (end_size l) r a s o)
        (taken_items n (as_components l) r a s o)
    bare_by s None o is = is
    bare_by s (Some xs) o is = (is.0, ap (map (components l)) is.1 ∙ of_items s o)

front_is : (n : ℕ) → 0 < n → front n ≡ n
front_is zero some = omega (arith, some)
front_is (suc n) some = refl

-- items that are read to the end of their last component are those of their components
pub bare_taken : (Gives : Results) (n : ℕ) (l : Layout) (r : Root) (a : Accessor)
    (s : Option Sparse) (p : ℕ) (xs : Option (List (List ℕ))) → 0 < p → end_size l ≡ p
    → TakesParts Gives n (as_bytes p) r a s xs
    → TakesParts Gives n (as_components l) r a s (option_map (map (components l)) xs)
bare_taken Gives n l r a s p xs some is h =
    let sized : TakesParts Gives n (sized_as p p) r a s xs =
    subst (λ (k : ℕ). TakesParts Gives n (sized_as k p) r a s xs) (front_is p some) h in
    let ends : TakesParts Gives n (sized_as (end_size l) (end_size l)) r a s xs =
    subst (λ (k : ℕ). TakesParts Gives n (sized_as k k) r a s xs) (sym is) sized in
    takes_to (option_map (map (components l)) xs) (bare_by l n r a s xs) ends

-- at the distance of an item with its padding
pub apart_by : (Gives : Results) (n : ℕ) (l : Layout) (r : Root) (a : Accessor) (s : Option Sparse)
    (xs : Option (List (List ℕ))) → n ≡ padded_size l
    → TakesParts Gives n (as_components l) r a s xs
    → TakesParts Gives (padded_size l) (as_components l) r a s xs
apart_by Gives n l r a s xs is h =
    subst (λ (k : ℕ). TakesParts Gives k (as_components l) r a s xs) is h

-- those that were written of what was read
pub sized_in : {I : Type 0} (Gives : Results) (l : Layout) (r : Root) (a : Accessor)
    (result : Result ℕ NotWritten) (old new : List ℕ) (n p : ℕ) (items_of : I → List (List ℕ))
    (o : Option I) → 0 < p → end_size l ≡ p → n ≡ padded_size l
    → TakesParts Gives n (as_bytes p) r a a.sparse (option_map items_of o)
    → IsWritten (bare_size l) (option_map (λ it. map (components l) (items_of it)) o) result old new
    → AreBareIn Gives l r a result old new
sized_in Gives l r a result old new n p items_of None some ends apart h w = record {
  items = None;
  taken = apart_by Gives n l r a a.sparse None apart
      (bare_taken Gives n l r a a.sparse p None some ends h);
  written = w;
}
sized_in Gives l r a result old new n p items_of (Some it) some ends apart h w = record {
  items = Some (map (components l) (items_of it));
  taken = apart_by Gives n l r a a.sparse (Some (map (components l) (items_of it))) apart
      (bare_taken Gives n l r a a.sparse p (Some (items_of it)) some ends h);
  written = w;
}

-- ---- with zeros where there is no view

module _ {X : Type 0} (n : ℕ) (t : Ghosts X) (r : Root) (a : Accessor) where
  abbrev viewed_at : Option View → ℕ → Option Part
  viewed_at v offset = spaced_part n (option_map (λ v. part_of v offset a.count t.size) v)

  viewed : (v : Option View) (offset : ℕ) (given : Option (List ℕ)) (xs : Option (List X))
      → is_none v ≡ false
      → SomeIff xs (PartReadable (viewed_at v offset) given)
      (part_items t.value (viewed_at v offset) given)
      → SomeIff xs (BaseReadable a.count (viewed_at v offset) given)
      (unwrap_or (base_items t.value (viewed_at v offset) given) (replicate a.count t.zero_item))
  viewed None offset given xs some is = absurd (true≢false some)
  viewed (Some v) offset given None some is = is
  viewed (Some v) offset given (Some xs) some is = is

  left_true : (b : Bool) → (b && true) ≡ false → b ≡ false
  left_true true is = is
  left_true false is = refl

  zeroed_by : (s : Option Sparse)
      → (is_none (option_and_then (view_at r) a.buffer_view) && is_none s) ≡ false
      → (xs : Option (List X)) (o : Answers)
      → SomeIff xs (PartsThere n t.size r a s o) (taken_items n t r a s o)
      → SomeIff xs (ZeroedReadable n t.size r a s o) (zeroed_items n t r a s o)
  zeroed_by None some xs o is =
      viewed (option_and_then (view_at r) a.buffer_view) (unwrap_or a.byte_offset 0) o.base xs
      (left_true (is_none (option_and_then (view_at r) a.buffer_view)) some) is
  zeroed_by (Some s) some xs o is = is

  -- of an accessor that has a view or a sparse part
  pub zeroed : {Gives : Results} (xs : Option (List X)) → is_zeros r a ≡ false
      → TakesParts Gives n t r a a.sparse xs → TakesZeroed Gives n t r a xs
  zeroed xs some h = takes_to xs (zeroed_by a.sparse some xs) h

pub bare_written : (Gives : Results) (l : Layout) (r : Root) (a : Accessor)
    (result : Result ℕ NotWritten) (old new : List ℕ) → l ≡ layout_of a
    → bare_size l ≡ item_size a → is_zeros r a ≡ false → AreBareIn Gives l r a result old new
    → AreComponentsIn Gives r a result old new
bare_written Gives l r a result old new laid size some h = record {
  items = h.items;
  taken = zeroed (padded_size (layout_of a)) (as_components (layout_of a)) r a h.items some
      (subst (λ l. TakesParts Gives (padded_size l) (as_components l) r a a.sparse h.items) laid
      h.taken);
  written = subst (λ (n : ℕ). IsWritten n h.items result old new) size h.written;
}

-- of one that has neither
abbrev blank : ℕ → ℕ → List (List ℕ)
blank count n = replicate count (replicate n 0)

some_zeros : (b : Bool) (count n : ℕ) → nat_lt 0 count ≡ b
    → SomeIff (zeros count n) (0 < count) (blank count n)
some_zeros true count n is =
    subst (λ (b : Bool). SomeIff (if b then Some (blank count n) else None)
    (0 < count) (blank count n)) (sym is) (ltb-true 0 count is, refl)
some_zeros false count n is =
    subst (λ (b : Bool). SomeIff (if b then Some (blank count n) else None)
    (0 < count) (blank count n)) (sym is)
    (λ some. true≢false (sym (lt-ltb 0 count some) ∙ is))

nothing_there : (v : Option View) (s : Option Sparse) → (is_none v && is_none s) ≡ true
    → (v ≡ None) × (s ≡ None)
nothing_there None None is = (refl, refl)
nothing_there None (Some s) is = absurd (true≢false (sym is))
nothing_there (Some v) s is = absurd (true≢false (sym is))

module _ (Gives : Results) (l : Layout) (r : Root) (a : Accessor) where
  zeros_exact : (part : Option Part) → part ≡ None → (given : Option (List ℕ))
      → SomeIff (zeros a.count (bare_size l)) (BaseReadable a.count part given)
      (unwrap_or (base_items (components l) part given)
      (replicate a.count (replicate (bare_size l) 0)))
  zeros_exact part is given =
      subst (λ part. SomeIff (zeros a.count (bare_size l)) (BaseReadable a.count part given)
      (unwrap_or (base_items (components l) part given)
      (replicate a.count (replicate (bare_size l) 0)))) (sym is)
      (some_zeros (nat_lt 0 a.count) a.count (bare_size l) refl)

  pub zeros_taken : is_zeros r a ≡ true
      → TakesComponents Gives l r a (zeros a.count (bare_size l))
  zeros_taken is =
      let n = padded_size l in
      let size = end_size l in
      let none = nothing_there (option_and_then (view_at r) a.buffer_view) a.sparse is in
      let here : base_part size r a ≡ None = rw none.0 refl in
      let part : base_at n size r a ≡ None = ap (λ p. spaced_part n p) here in
      let without : Takes Gives n size r a None (ZeroedReadable n size r a None)
      (zeroed_items n (as_components l) r a None) (zeros a.count (bare_size l)) =
      record {
        answers = record { base = None; indices = None; values = None };
        asked = subst (λ p. IsAnsweredFor Gives r p None) (sym part) tt;
        exactly = zeros_exact (base_at n size r a) part None;
        alike = λ always gives. zeros_exact (base_at n size r a) part
            ((answers_at always n size r a None).base);
      } in
      subst (λ s. Takes Gives n size r a s (ZeroedReadable n size r a s)
      (zeroed_items n (as_components l) r a s) (zeros a.count (bare_size l))) (sym none.1) without

-- ---- without padding

-- where there is none, the bytes of the components are those of the item
pub tight_value : (l : Layout) (n : ℕ) → l.padding ≡ 0 → bare_size l ≡ n → (bytes : List ℕ)
    → components l bytes ≡ take n bytes
tight_value l n none is bytes =
    let s : step l ≡ l.column = omega (arith, none) in
    row_tight l.columns (step l) l.column bytes s ∙ ap (λ (k : ℕ). take k bytes) is

tight : (P : ℕ → (List ℕ → List ℕ) → List ℕ → Type 0) (l : Layout) (n : ℕ) → l.padding ≡ 0
    → bare_size l ≡ n → 0 < n → P n (take n) (replicate n 0)
    → P (end_size l) (components l) (replicate (bare_size l) 0)
tight P l n none is some h =
    let value : take n ≡ components l =
    fun_ext (λ (bytes : List ℕ). sym (tight_value l n none is bytes)) in
    subst (λ (k : ℕ). P (end_size l) (components l) (replicate k 0)) (sym is)
    (subst (λ (v : List ℕ → List ℕ). P (end_size l) v (replicate n 0)) value
    (subst (λ (k : ℕ). P k (take n) (replicate n 0)) (sym (tight_ends l n none is some)) h))

pub flat_written : (Gives : Results) (l : Layout) (r : Root) (a : Accessor)
    (result : Result ℕ NotWritten) (old new : List ℕ) → l ≡ layout_of a → l.padding ≡ 0
    → bare_size l ≡ item_size a → 0 < item_size a → is_zeros r a ≡ false
    → IsFlatIn Gives (item_size a) r a result old new → AreComponentsIn Gives r a result old new
flat_written Gives l r a result old new laid none size some viewed h =
    let n = item_size a in
    let reads : Reads Gives (sized_as n n) r a h.items =
    subst (λ (k : ℕ). Reads Gives (made_of k (take n) (replicate n 0)) r a h.items)
    (front_is n some) h.reads in
    let alike : ReadsAlike Gives (sized_as n n) r a h.items =
    subst (λ (k : ℕ). ReadsAlike Gives (made_of k (take n) (replicate n 0)) r a h.items)
    (front_is n some) h.alike in
    let parts : TakesParts Gives n (sized_as n n) r a a.sparse h.items =
    parts_of n some r a (take n) (replicate n 0) refl h.items reads alike in
    let bare : TakesParts Gives n (as_components l) r a a.sparse h.items =
    tight (λ k v z. TakesParts Gives n (made_of k v z) r a a.sparse h.items) l n none size some
    parts in
    let far : TakesParts Gives (padded_size l) (as_components l) r a a.sparse h.items =
    apart_by Gives n l r a a.sparse h.items (sym (tight_size l n none size)) bare in
    record {
      items = h.items;
      taken = zeroed (padded_size (layout_of a)) (as_components (layout_of a)) r a h.items viewed
          (subst (λ l. TakesParts Gives (padded_size l) (as_components l) r a a.sparse h.items)
          laid far);
      written = h.written;
    }

-- ---- what is written

when_true : (b : Bool) (P Q : Type 0) → b ≡ true → P → MatchBool b P Q
when_true true P Q is p = p
when_true false P Q is p = absurd (true≢false (sym is))

when_false : (b : Bool) (P Q : Type 0) → b ≡ false → Q → MatchBool b P Q
when_false true P Q is q = absurd (true≢false is)
when_false false P Q is q = q

pub no_room : (n : ℕ) (xs : List (List ℕ)) (old : List ℕ) → length old < length xs * n
    → IsWritten n (Some xs) (Err NoRoom) old old
no_room n xs old less =
    when_false (nat_le (length xs * n) (length old)) _ _
    (lt-leb (length xs * n) (length old) less) (refl, refl)

pub all_written : (n : ℕ) (xs : List (List ℕ)) (old new : List ℕ) (total : ℕ)
    → total ≡ length xs * n → total ≤ length old
    → new ≡ concat xs ++ drop (length xs * n) old → IsWritten n (Some xs) (Ok total) old new
all_written n xs old new total is fits written =
    let enough : length xs * n ≤ length old = omega (arith, is, fits) in
    when_true (nat_le (length xs * n) (length old)) _ _
    (le-leb (length xs * n) (length old) enough) (ap Ok is, written)

zeros_there : (count n : ℕ) → 0 < count
    → zeros count n ≡ Some (blank count n)
zeros_there count n some =
    ap (λ (b : Bool). if b then Some (blank count n) else None)
    (lt-ltb 0 count some)

zeros_joined : (count n : ℕ) → concat (blank count n) ≡ replicate (count * n) 0
zeros_joined zero n =
    let none : 0 ≡ 0 * n = omega arith in
    ap (λ (k : ℕ). replicate k 0) none
zeros_joined (suc count) n =
    let all : n + count * n ≡ suc count * n = omega arith in
    ap (λ (z : List ℕ). replicate n 0 ++ z) (zeros_joined count n)
    ∙ replicate-append-replicate n (count * n) 0
    ∙ ap (λ (k : ℕ). replicate k 0) all

pub nothing_written : (count n : ℕ) (old : List ℕ) → count ≡ 0
    → IsWritten n (zeros count n) (Err Unreadable) old old
nothing_written count n old none =
    subst (λ (k : ℕ). IsWritten n (zeros k n) (Err Unreadable) old old) (sym none) (refl, refl)

pub no_zeros_room : (count n : ℕ) (old : List ℕ) → 0 < count → length old < count * n
    → IsWritten n (zeros count n) (Err NoRoom) old old
no_zeros_room count n old some less =
    let many : length (blank count n) * n ≡ count * n =
    ap (λ (k : ℕ). k * n) (length-replicate count (replicate {A = ℕ} n 0)) in
    subst (λ o. IsWritten n o (Err NoRoom) old old) (sym (zeros_there count n some))
    (no_room n (blank count n) old (omega (arith, many, less)))

zeros_written : (count n : ℕ) (old new : List ℕ) → 0 < count → count * n ≤ length old
    → new ≡ replicate (count * n) 0 ++ drop (count * n) old
    → IsWritten n (zeros count n) (Ok (count * n)) old new
zeros_written count n old new some fits is =
    let many : length (blank count n) * n ≡ count * n =
    ap (λ (k : ℕ). k * n) (length-replicate count (replicate {A = ℕ} n 0)) in
    let written : new ≡ concat (blank count n)
    ++ drop (length (blank count n) * n) old =
    is ∙ ap (λ (z : List ℕ). z ++ drop (count * n) old) (sym (zeros_joined count n))
    ∙ ap (λ (k : ℕ). concat (blank count n) ++ drop k old) (sym many) in
    subst (λ o. IsWritten n o (Ok (count * n)) old new) (sym (zeros_there count n some))
    (all_written n (blank count n) old new (count * n) (sym many) fits written)

pub zeros_total : (count n total : ℕ) (old new : List ℕ) → total ≡ count * n → 0 < count
    → total ≤ length old → new ≡ replicate total 0 ++ drop total old
    → IsWritten n (zeros count n) (Ok total) old new
zeros_total count n total old new is some =
    subst (λ (t : ℕ). t ≤ length old → new ≡ replicate t 0 ++ drop t old
    → IsWritten n (zeros count n) (Ok t) old new) (sym is)
    (λ fits written. zeros_written count n old new some fits written)

-- the items of an accessor that has neither a view nor a sparse part
pub zeros_in : (Gives : Results) (r : Root) (a : Accessor) (result : Result ℕ NotWritten)
    (old new : List ℕ) (count n : ℕ) → count ≡ a.count → n ≡ item_size a → is_zeros r a ≡ true
    → IsWritten n (zeros count n) result old new → AreComponentsIn Gives r a result old new
zeros_in Gives r a result old new count n many size is written =
    let bare : bare_size (layout_of a) ≡ n = bare_item a ∙ sym size in
    let taken : TakesComponents Gives (layout_of a) r a (zeros count n) =
    subst (λ (k : ℕ). TakesComponents Gives (layout_of a) r a (zeros k n)) (sym many)
    (subst (λ (k : ℕ). TakesComponents Gives (layout_of a) r a (zeros a.count k)) bare
    (zeros_taken Gives (layout_of a) r a is)) in
    record {
      items = zeros count n;
      taken = taken;
      written = subst (λ (k : ℕ). IsWritten k (zeros count n) result old new) size written;
    }

-- ---- sizes

pub front_small : (n : ℕ) → n ≤ 64 → front n < 2 ^ 64 - 1
front_small zero h = omega arith
front_small (suc n) h = omega (arith, h)

pub not_below : (a n : ℕ) → (a < n → ⊥) → n ≤ a
not_below a n h = elim (cases_lt a n) [ inl less ↦ absurd (h less) | inr rest ↦ rest ]
