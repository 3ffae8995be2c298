-- The few items of a sparse accessor without a view are the same as all of them.
use Rattle.std.proofs.Common.{◌≡◌, ◌≢◌, ℕ, ◌+◌, ◌*◌, ◌≤◌, Bool, true, false, ◌&&◌, ◌||◌}
use Rattle.std.proofs.Common.{List, [], ◌∷◌, ◌++◌, length, map, take, drop, Option, Some, None}
use Rattle.std.proofs.Common.{refl, sym, ap, subst, ◌∙◌, arith}
use Rattle.std.specs.Prelude.{nat_lt, slice_get, unwrap_or, option_map, option_and_then, Err}
use Rattle.std.specs.Prelude.{is_some, IfSome}
use Rattle.std.specs.List.{list_any, range_with_len}
use Rattle.std.proofs.lemmas.Bool.{cond_both, true≢false}
use Rattle.std.proofs.lemmas.List.{take_all}
use Rattle.std.proofs.lemmas.List.FromFn.{take-map-range_with_len}
use Rattle.byteorder.specs.Endian.{little_number}
use Rattle.gltf_json.specs.declared.root.Root.{Root}
use Rattle.gltf_json_geometry.specs.declared.accessor.Accessor.{Accessor}
use Rattle.gltf_json_geometry.specs.declared.accessor.sparse.Sparse.{Sparse}
use Rattle.gltf_json_geometry.specs.declared.buffer.View.{View}
use Rattle.gltf_handles.specs.Sizes.{stored_size}
use Rattle.gltf_items.specs.declared.item.Item.{Ghosts}
use Rattle.gltf_items.specs.Sparse.{sparse}
use Rattle.gltf_data.specs.Answers.{answer_for, answers_by, answers_with}
use Rattle.gltf_data.specs.Parts.{Part, part_of, view_at, addressed, part_items, items_in, items}
use Rattle.gltf_data.specs.Parts.{index_part, items_with, base_items, stride, view_offset}
use Rattle.gltf_data.specs.Unreadable.{Condition, where_all_hold, conditions}
use Rattle.gltf_inspect_items.specs.Members.{HaveSameItems, one, placed, few, indices_in, values_in}
use Rattle.gltf_inspect_items.specs.Members.{viewless, members_left}
use Rattle.gltf_inspect_items.specs.declared.members.Members.{Members}
use Rattle.gltf_inspect_items.specs.Parts.{part_in, part_given}
use Rattle.gltf_inspect_items.specs.Reading.{Bytes, items_or_none, accessor_items, items_at}
use Rattle.gltf_inspect_items.proofs.Parts.{given_items, given_length, few_items}
use Rattle.gltf_inspect_items.proofs.Placed.{placed_among}
use Rattle.gltf_inspect_items.proofs.Zeros.{few_are_the_same}

-- a test of the items to be looked at is one of zero and one of the others
pub any_of : {X : Type 0} (test : X → Bool) (x : X) (zero : Bool) (xs : List X)
    → list_any test (one x zero ++ xs) ≡ ((zero && test x) || list_any test xs)
any_of test x true xs = refl
any_of test x false xs = refl

same_numbers : (xs : List ℕ) → map (λ n. n) xs ≡ xs
same_numbers [] = refl
same_numbers (x ∷ xs) = ap (λ ys. x ∷ ys) (same_numbers xs)

module _ {X : Type 0} (value : List ℕ → X) (size offset : ℕ) (bytes : Bytes) where
  abbrev part_at : Option View → ℕ → Option Part
  part_at o count = option_map (λ v. part_of v offset count size) o

  among : (o : Option View) (count : ℕ)
      → length (part_items value (part_at o count) (answer_for bytes (part_at o count))) ≤ count
  among None count = omega arith
  among (Some v) count = few_items value (part_of v offset count size) (bytes v.buffer)

  all_of : (o : Option View) (count : ℕ) (xs : List X)
      → part_given value (part_at o count) bytes ≡ Some xs
      → length (part_items value (part_at o count) (answer_for bytes (part_at o count))) ≡ count
  all_of None count xs is = cc
  all_of (Some v) count xs is =
      given_length value (part_of v offset count size) (bytes v.buffer) xs is

  firsts : (v : View) (given : Option (List ℕ)) (count m : ℕ) → m ≤ count
      → items_in value (part_of v offset m size) given
      ≡ take m (items_in value (part_of v offset count size) given)
  unfolding addressed
  firsts v None count m h = sym (take_all m [] (omega arith))
  firsts v (Some bytes) count m h = sym (take-map-range_with_len (λ i.
      value (drop (view_offset v + offset + i * stride v size) bytes)) 0 count m h)

  first_of : (o : Option View) (count m : ℕ) (xs : List X) → m ≤ count
      → part_given value (part_at o m) bytes ≡ Some xs
      → xs ≡ take m (part_items value (part_at o count) (answer_for bytes (part_at o count)))
  first_of None count m xs h is = cc
  first_of (Some v) count m xs h is =
      given_items value (Some (part_of v offset m size)) bytes xs is
      ∙ firsts v (bytes v.buffer) count m h

-- how many count, where the indices are read as numbers of their type
placed_by : (r : Root) (bytes : Bytes) (s : Sparse) (n : ℕ) (result : Option ℕ)
    (read : Option (List ℕ))
    → part_given (little_number (stored_size s.indices)) (index_part r s) bytes ≡ read
    → result ≡ option_map (λ xs. placed 0 n (map (λ k. k) xs)) read
    → IfSome result (λ many. many ≡ placed 0 n (indices_in r bytes s))
placed_by r bytes s n result None given is =
    subst (λ (o : Option ℕ). IfSome o (λ many. many ≡ placed 0 n (indices_in r bytes s))) (sym is)
    tt
placed_by r bytes s n result (Some xs) given is =
    subst (λ (o : Option ℕ). IfSome o (λ many. many ≡ placed 0 n (indices_in r bytes s))) (sym is)
    (ap (λ ys. placed 0 n ys) (same_numbers xs
    ∙ given_items (little_number (stored_size s.indices)) (index_part r s) bytes xs given))

pub placed_given : (r : Root) (bytes : Bytes) (s : Sparse) (n size : ℕ) (result : Option ℕ)
    → stored_size s.indices ≡ size
    → result ≡ option_map (λ xs. placed 0 n (map (λ k. k) xs)) (part_given (little_number size)
    (part_in size r s.indices.buffer_view s.indices.byte_offset s.count) bytes)
    → IfSome result (λ many. many ≡ placed 0 n (indices_in r bytes s))
placed_given r bytes s n size result sized is =
    placed_by r bytes s n result
    (part_given (little_number (stored_size s.indices)) (index_part r s) bytes) refl
    (is ∙ ap (λ (k : ℕ). option_map (λ xs. placed 0 n (map (λ m. m) xs))
    (part_given (little_number k)
    (part_in k r s.indices.buffer_view s.indices.byte_offset s.count) bytes)) (sym sized))

module _ {X : Type 0} (t : Ghosts X) (r : Root) (bytes : Bytes) (s : Sparse) where
  -- where all values are given
  pub length_values : (xs : List X) → part_given t.value
      (part_in t.size r s.values.buffer_view s.values.byte_offset s.count) bytes ≡ Some xs
      → length (values_in t r bytes s) ≡ s.count
  length_values xs is =
      all_of t.value t.size s.values.byte_offset bytes (view_at r s.values.buffer_view) s.count xs is

  -- the first of them
  pub first_values : (m : ℕ) (xs : List X) → m ≤ s.count → part_given t.value
      (part_in t.size r s.values.buffer_view s.values.byte_offset m) bytes ≡ Some xs
      → xs ≡ take m (values_in t r bytes s)
  first_values m xs h is =
      first_of t.value t.size s.values.byte_offset bytes (view_at r s.values.buffer_view) s.count m
      xs h is

  few_indices : length (indices_in r bytes s) ≤ s.count
  few_indices =
      among (little_number (stored_size s.indices)) (stored_size s.indices) s.indices.byte_offset
      bytes (view_at r s.indices.buffer_view) s.count

  pub few_same : (n many : ℕ) (zero : Bool) (others : List X)
      → many ≡ placed 0 n (indices_in r bytes s) → zero ≡ nat_lt many n
      → length (values_in t r bytes s) ≡ s.count
      → (many ≤ s.count → others ≡ take many (values_in t r bytes s))
      → HaveSameItems (one t.zero_item zero ++ others) (viewless t r bytes n s)
  few_same n many zero others is some all first =
      let indices = indices_in r bytes s in
      let values = values_in t r bytes s in
      let within : many ≤ s.count = omega (arith, is, placed_among 0 n indices, few_indices) in
      let enough : length indices ≤ length values = omega (arith, few_indices, all) in
      let same : one t.zero_item zero ++ others ≡ few t.zero_item n indices values =
      ap (λ b. one t.zero_item b ++ others) some
      ∙ ap (λ xs. one t.zero_item (nat_lt many n) ++ xs) (first within)
      ∙ ap (λ m. one t.zero_item (nat_lt m n) ++ take m values) is in
      subst (λ xs. HaveSameItems xs (viewless t r bytes n s)) (sym same)
      (few_are_the_same t.zero_item n indices values enough)

held_items : {X : Type 0} (cs : List Condition) (x : List X)
    → items_or_none (where_all_hold cs x) ≢ [] → items_or_none (where_all_hold cs x) ≡ x
held_items [] x some = refl
held_items (c ∷ cs) x some =
    cond_both c.0 (where_all_hold cs x) (Err c.1)
    (λ read. items_or_none read ≢ [] → items_or_none read ≡ x)
    (λ e. held_items cs x) (λ e none. absurd (none refl)) some

-- with the values over this base
abbrev over_base : {X : Type 0} → Ghosts X → Root → Bytes → Accessor → Sparse → Option Part → List X
over_base t r bytes a s base =
    sparse t.zero_item (base_items t.value base (answer_for bytes base)) a.count
    (indices_in r bytes s) (values_in t r bytes s)

-- the items of a sparse accessor without a view, where it has some
pub items_are : {X : Type 0} (t : Ghosts X) (r : Root) (bytes : Bytes) (i : ℕ) (a : Accessor)
    (s : Sparse) → slice_get r.accessors.items i ≡ Some a → a.buffer_view ≡ None
    → a.sparse ≡ Some s → items_at t r bytes i ≢ []
    → items_at t r bytes i ≡ viewless t r bytes a.count s
items_are t r bytes i a s here unviewed is some =
    let read : items_at t r bytes i ≡ accessor_items t r bytes (Some a) =
    ap (accessor_items t r bytes) here in
    read
    ∙ held_items (conditions t.size r a (answers_by bytes t.size r a))
    (items t r a (answers_by bytes t.size r a)) (λ none. some (read ∙ none))
    ∙ ap (λ sp. items_with t r a sp (answers_with bytes t.size r a sp)) is
    ∙ ap (λ view. over_base t r bytes a s (option_map
    (λ v. part_of v (unwrap_or a.byte_offset 0) a.count t.size)
    (option_and_then (view_at r) view))) unviewed

pub no_view : {X : Type 0} (o : Option X) → is_some o ≡ false → o ≡ None
no_view None h = refl
no_view (Some x) h = absurd (true≢false h)

-- what stands for them stands for the items at an index
pub few_are : {X : Type 0} {t : Ghosts X} (r : Root) (bytes : Bytes) (i : ℕ) (a : Accessor)
    (s : Sparse) (result : Option (Members X t)) → slice_get r.accessors.items i ≡ Some a
    → a.buffer_view ≡ None → a.sparse ≡ Some s
    → IfSome result (λ few. HaveSameItems (members_left few) (viewless t r bytes a.count s))
    → IfSome result (λ few. items_at t r bytes i ≢ []
    → HaveSameItems (members_left few) (items_at t r bytes i))
few_are r bytes i a s None here unviewed is same = tt
few_are {t = t} r bytes i a s (Some made) here unviewed is same = λ some.
    subst (λ xs. HaveSameItems (members_left made) xs)
    (sym (items_are t r bytes i a s here unviewed is some)) same

pub same_as : {X : Type 0} (xs ys : List X) → xs ≡ ys → HaveSameItems xs ys
same_as xs ys e = record { any = λ test. ap (list_any test) e }
