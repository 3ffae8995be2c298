-- Documents that show the same are read alike, by the same answers for their buffers. `alike_reads`
-- proves the law `alike_documents_are_read_alike`. Of a view the members that no reading looks at
-- are blanked (`bare_view`: target, name, extensions, extras), so that the parts of both documents
-- are equal. `parts_alike` (what can be read) and `items_alike` (which items) then split on the
-- sparse part, and `at_alike` on whether the accessor is there. `same_accessor` and `same_sparse`
-- take members out of a content by their order in the table.
use Rattle.std.proofs.Common.{◌≡◌, ℕ, List, map, refl, sym, ap, subst, ◌∙◌}
use Rattle.std.specs.Prelude.{Option, Some, None, option_map, option_and_then, unwrap_or, slice_get}
use Rattle.std.specs.Prelude.{SomeIff}
use Rattle.std.proofs.lemmas.Iterator.Adapters.{option_map_id}
use Rattle.std.proofs.lemmas.Option.{slice_get-map}
use Rattle.byteorder.specs.Endian.{little_number}
use Rattle.gltf_json_geometry.specs.Accessors.{accessor, indices, values, sparse as sparse_kind}
use Rattle.gltf_json_geometry.specs.Buffers.{buffer_view}
use Rattle.gltf_json_geometry.specs.declared.accessor.Accessor.{Accessor}
use Rattle.gltf_json_geometry.specs.declared.accessor.sparse.Sparse.{Sparse}
use Rattle.gltf_json_geometry.specs.declared.buffer.View.{View}
use Rattle.gltf_json.specs.Alike.{AreAlikeInEachMember}
use Rattle.gltf_json.specs.declared.root.Root.{Root}
use Rattle.gltf_handles.specs.Sizes.{item_size, stored_size}
use Rattle.gltf_items.specs.declared.item.Item.{Ghosts}
use Rattle.gltf_items.specs.Sparse.{sparse}
use Rattle.gltf_data.specs.Parts.{Part, part_of, FitsIn, addressed, items_in, view_at, base_part}
use Rattle.gltf_data.specs.Parts.{index_part, value_part, BaseReadable, PartReadable, PartsReadable}
use Rattle.gltf_data.specs.Parts.{Readable, part_items, base_items, items_with, items}
use Rattle.gltf_data.specs.Answers.{answer_for, answers_with, answers_by}
use Rattle.gltf_data.specs.Documents.{IsReadable, items_of, accessor_at, ReadsAt}
use Rattle.gltf_data.proofs.Always.{same_where}

first : {A B : Type 0} {p q : A × B} → p ≡ q → p.0 ≡ q.0
first same = ap (λ p. p.0) same

rest : {A B : Type 0} {p q : A × B} → p ≡ q → p.1 ≡ q.1
rest same = ap (λ p. p.1) same

plain_option : {A : Type 0} {x y : Option A} → option_map (λ z. z) x ≡ option_map (λ z. z) y → x ≡ y
plain_option {x = x} {y = y} same = sym (option_map_id x) ∙ same ∙ option_map_id y

option_alike : {A B C : Type 0} (f : A → B) (g : A → C) → ((a b : A) → f a ≡ f b → g a ≡ g b)
    → (x y : Option A) → option_map f x ≡ option_map f y → option_map g x ≡ option_map g y
option_alike f g gives None None same = refl
option_alike f g gives None (Some b) same = cc
option_alike f g gives (Some a) None same = cc
option_alike f g gives (Some a) (Some b) same =
    let shown : f a ≡ f b = cc in
    ap (λ z. Some z) (gives a b shown)

-- ---- parts, but for what plays no part in where their items stand

abbrev bare_view : View → View
bare_view v = record {
  buffer = v.buffer;
  byte_length = v.byte_length;
  byte_offset = v.byte_offset;
  byte_stride = v.byte_stride;
  target = None;
  name = None;
  extensions = None;
  extras = None;
}

abbrev bare : Part → Part
bare p = record { view = bare_view p.view; offset = p.offset; count = p.count; size = p.size }

bare_views_alike : (v w : View) → buffer_view.content v ≡ buffer_view.content w
    → bare_view v ≡ bare_view w
unfolding buffer_view
bare_views_alike v w same =
    let after_buffer = rest same in
    let after_length = rest after_buffer in
    let after_offset = rest after_length in
    rw (
      first same,
      first after_buffer,
      plain_option (first after_length),
      plain_option (first after_offset),
    ) refl

bare_of : (o n size : ℕ) (v : Option View)
    → option_map bare (option_map (λ v. part_of v o n size) v)
    ≡ option_map (λ v. part_of v o n size) (option_map bare_view v)
bare_of o n size None = refl
bare_of o n size (Some v) = refl

fits_bare : (p : Part) (bytes : Option (List ℕ)) → FitsIn p bytes → FitsIn (bare p) bytes
fits_bare p None fits = fits
fits_bare p (Some bytes) fits = record {
  some = fits.some;
  apart = fits.apart;
  view_within = fits.view_within;
  items_within = fits.items_within;
}

bare_fits : (p : Part) (bytes : Option (List ℕ)) → FitsIn (bare p) bytes → FitsIn p bytes
bare_fits p None fits = fits
bare_fits p (Some bytes) fits = record {
  some = fits.some;
  apart = fits.apart;
  view_within = fits.view_within;
  items_within = fits.items_within;
}

in_bare : {X : Type 0} (value : List ℕ → X) (p : Part) (bytes : Option (List ℕ))
    → items_in value p bytes ≡ items_in value (bare p) bytes
unfolding addressed
in_bare value p None = refl
in_bare value p (Some bytes) = refl

module _ (answer : ℕ → Option (List ℕ)) where
  -- a part can be read, by the answer for its buffer
  abbrev Ready : Option Part → Type 0
  Ready p = PartReadable p (answer_for answer p)

  abbrev BaseReady : ℕ → Option Part → Type 0
  BaseReady count p = BaseReadable count p (answer_for answer p)

  to_bare : (p : Option Part) → Ready p → Ready (option_map bare p)
  to_bare None ready = ready
  to_bare (Some p) ready = fits_bare p (answer p.view.buffer) ready

  from_bare : (p : Option Part) → Ready (option_map bare p) → Ready p
  from_bare None ready = ready
  from_bare (Some p) ready = bare_fits p (answer p.view.buffer) ready

  ready_alike : (p q : Option Part) → option_map bare p ≡ option_map bare q → Ready p → Ready q
  ready_alike p q same ready = from_bare q (subst Ready same (to_bare p ready))

  base_to_bare : (count : ℕ) (p : Option Part) → BaseReady count p
      → BaseReady count (option_map bare p)
  base_to_bare count None ready = ready
  base_to_bare count (Some p) ready = fits_bare p (answer p.view.buffer) ready

  base_from_bare : (count : ℕ) (p : Option Part) → BaseReady count (option_map bare p)
      → BaseReady count p
  base_from_bare count None ready = ready
  base_from_bare count (Some p) ready = bare_fits p (answer p.view.buffer) ready

  base_ready_alike : (count : ℕ) (p q : Option Part) → option_map bare p ≡ option_map bare q
      → BaseReady count p → BaseReady count q
  base_ready_alike count p q same ready =
      base_from_bare count q (subst (BaseReady count) same (base_to_bare count p ready))

  part_bare : {X : Type 0} (value : List ℕ → X) (p : Option Part)
      → part_items value p (answer_for answer p)
      ≡ part_items value (option_map bare p) (answer_for answer (option_map bare p))
  part_bare value None = refl
  part_bare value (Some p) = in_bare value p (answer p.view.buffer)

  part_same : {X : Type 0} (value : List ℕ → X) (p q : Option Part)
      → option_map bare p ≡ option_map bare q
      → part_items value p (answer_for answer p) ≡ part_items value q (answer_for answer q)
  part_same value p q same = part_bare value p
      ∙ ap (λ x. part_items value x (answer_for answer x)) same ∙ sym (part_bare value q)

  base_bare : {X : Type 0} (value : List ℕ → X) (p : Option Part)
      → base_items value p (answer_for answer p)
      ≡ base_items value (option_map bare p) (answer_for answer (option_map bare p))
  base_bare value None = refl
  base_bare value (Some p) = ap (λ x. Some x) (in_bare value p (answer p.view.buffer))

  base_same : {X : Type 0} (value : List ℕ → X) (p q : Option Part)
      → option_map bare p ≡ option_map bare q
      → base_items value p (answer_for answer p) ≡ base_items value q (answer_for answer q)
  base_same value p q same = base_bare value p
      ∙ ap (λ x. base_items value x (answer_for answer x)) same ∙ sym (base_bare value q)

-- ---- what is read of a record

record SameAccessor (a b : Accessor) : Type 0 where
  buffer_view : a.buffer_view ≡ b.buffer_view
  byte_offset : a.byte_offset ≡ b.byte_offset
  component_type : a.component_type ≡ b.component_type
  count : a.count ≡ b.count
  type_ : a.type_ ≡ b.type_
  sparse : option_map sparse_kind.content a.sparse ≡ option_map sparse_kind.content b.sparse

same_accessor : (a b : Accessor) → accessor.content a ≡ accessor.content b → SameAccessor a b
unfolding accessor
same_accessor a b same =
    let after_view = rest same in
    let after_offset = rest after_view in
    let after_component = rest after_offset in
    let after_normalized = rest after_component in
    let after_count = rest after_normalized in
    let after_type = rest after_count in
    let after_max = rest after_type in
    let after_min = rest after_max in
    record {
      buffer_view = plain_option (first same);
      byte_offset = plain_option (first after_view);
      component_type = first after_offset;
      count = first after_normalized;
      type_ = first after_count;
      sparse = first after_min;
    }

record SameSparse (a b : Sparse) : Type 0 where
  count : a.count ≡ b.count
  index_view : a.indices.buffer_view ≡ b.indices.buffer_view
  index_offset : a.indices.byte_offset ≡ b.indices.byte_offset
  index_type : a.indices.component_type ≡ b.indices.component_type
  value_view : a.values.buffer_view ≡ b.values.buffer_view
  value_offset : a.values.byte_offset ≡ b.values.byte_offset

same_sparse : (a b : Sparse) → sparse_kind.content a ≡ sparse_kind.content b → SameSparse a b
unfolding sparse_kind indices values
same_sparse a b same =
    let after_count = rest same in
    let in_indices = first after_count in
    let in_values = first (rest after_count) in
    record {
      count = first same;
      index_view = first in_indices;
      index_offset = first (rest in_indices);
      index_type = first (rest (rest in_indices));
      value_view = first in_values;
      value_offset = first (rest in_values);
    }

size_alike : (a b : Accessor) → SameAccessor a b → item_size a ≡ item_size b
size_alike a b same = rw (same.component_type, same.type_) refl

stored_alike : (a b : Sparse) → SameSparse a b → stored_size a.indices ≡ stored_size b.indices
stored_alike a b same = rw (same.index_type) refl

sparse_same : {X : Type 0} (zero : X) {b c : Option (List X)} {m n : ℕ} {i j : List ℕ}
    {v w : List X} → b ≡ c → m ≡ n → i ≡ j → v ≡ w → sparse zero b m i v ≡ sparse zero c n j w
sparse_same zero bases counts stored given = rw (bases, counts, stored, given) refl

-- ---- documents whose views show the same

module _ (r s : Root) (views : map buffer_view.content r.buffer_views.items
    ≡ map buffer_view.content s.buffer_views.items) where
  view_alike : (i : ℕ) → option_map bare_view (view_at r i) ≡ option_map bare_view (view_at s i)
  view_alike i =
      option_alike buffer_view.content bare_view bare_views_alike (view_at r i) (view_at s i)
      (sym (slice_get-map buffer_view.content r.buffer_views.items i)
      ∙ ap (λ shown. slice_get shown i) views
      ∙ slice_get-map buffer_view.content s.buffer_views.items i)

  part_alike : (i o n size : ℕ) → option_map bare
      (option_map (λ v. part_of v o n size) (view_at r i))
      ≡ option_map bare (option_map (λ v. part_of v o n size) (view_at s i))
  part_alike i o n size = bare_of o n size (view_at r i)
      ∙ ap (option_map (λ v. part_of v o n size)) (view_alike i)
      ∙ sym (bare_of o n size (view_at s i))

  any_part_alike : (view : Option ℕ) (o n size : ℕ)
      → option_map bare (option_map (λ v. part_of v o n size) (option_and_then (view_at r) view))
      ≡ option_map bare (option_map (λ v. part_of v o n size) (option_and_then (view_at s) view))
  any_part_alike None o n size = refl
  any_part_alike (Some i) o n size = part_alike i o n size

  base_part_alike : (size : ℕ) (a b : Accessor) → SameAccessor a b
      → option_map bare (base_part size r a) ≡ option_map bare (base_part size s b)
  base_part_alike size a b same = rw (same.buffer_view, same.byte_offset, same.count)
      (any_part_alike b.buffer_view (unwrap_or b.byte_offset 0) b.count size)

  index_part_alike : (a b : Sparse) → SameSparse a b
      → option_map bare (index_part r a) ≡ option_map bare (index_part s b)
  index_part_alike a b same = rw (same.index_view, same.index_offset, same.count, same.index_type)
      (part_alike b.indices.buffer_view b.indices.byte_offset b.count (stored_size b.indices))

  value_part_alike : (size : ℕ) (a b : Sparse) → SameSparse a b
      → option_map bare (value_part size r a) ≡ option_map bare (value_part size s b)
  value_part_alike size a b same = rw (same.value_view, same.value_offset, same.count)
      (part_alike b.values.buffer_view b.values.byte_offset b.count size)

  parts_alike : (answer : ℕ → Option (List ℕ)) (size : ℕ) (a b : Accessor) → SameAccessor a b
      → (x y : Option Sparse) → option_map sparse_kind.content x ≡ option_map sparse_kind.content y
      → PartsReadable size r a x (answers_with answer size r a x)
      → PartsReadable size s b y (answers_with answer size s b y)
  parts_alike answer size a b same None None shown ready =
      ready_alike answer (base_part size r a) (base_part size s b)
      (base_part_alike size a b same) ready
  parts_alike answer size a b same None (Some y) shown ready = cc
  parts_alike answer size a b same (Some x) None shown ready = cc
  parts_alike answer size a b same (Some x) (Some y) shown ready =
      let content : sparse_kind.content x ≡ sparse_kind.content y = cc in
      let both = same_sparse x y content in
      record {
        base = subst (λ n. BaseReady answer n (base_part size s b)) same.count
            (base_ready_alike answer a.count (base_part size r a) (base_part size s b)
            (base_part_alike size a b same) ready.base);
        indices = ready_alike answer (index_part r x) (index_part s y)
            (index_part_alike x y both) ready.indices;
        values = ready_alike answer (value_part size r x) (value_part size s y)
            (value_part_alike size x y both) ready.values;
      }

  readable_alike : (answer : ℕ → Option (List ℕ)) (size : ℕ) (a b : Accessor) → SameAccessor a b
      → Readable size r a (answers_by answer size r a)
      → Readable size s b (answers_by answer size s b)
  readable_alike answer size a b same ready = record {
    same_size = ready.same_size ∙ size_alike a b same;
    parts = parts_alike answer size a b same a.sparse b.sparse same.sparse ready.parts;
  }

  items_alike : {X : Type 0} (t : Ghosts X) (answer : ℕ → Option (List ℕ)) (a b : Accessor)
      → SameAccessor a b → (x y : Option Sparse)
      → option_map sparse_kind.content x ≡ option_map sparse_kind.content y
      → items_with t r a x (answers_with answer t.size r a x)
      ≡ items_with t s b y (answers_with answer t.size s b y)
  items_alike t answer a b same None None shown =
      part_same answer t.value (base_part t.size r a) (base_part t.size s b)
      (base_part_alike t.size a b same)
  items_alike t answer a b same None (Some y) shown = cc
  items_alike t answer a b same (Some x) None shown = cc
  items_alike t answer a b same (Some x) (Some y) shown =
      let content : sparse_kind.content x ≡ sparse_kind.content y = cc in
      let both = same_sparse x y content in
      sparse_same t.zero_item (base_same answer t.value (base_part t.size r a)
      (base_part t.size s b) (base_part_alike t.size a b same)) same.count
      (ap (λ n. part_items (little_number n) (index_part r x) (answer_for answer (index_part r x)))
      (stored_alike x y both) ∙ part_same answer (little_number (stored_size y.indices))
      (index_part r x) (index_part s y) (index_part_alike x y both))
      (part_same answer t.value (value_part t.size r x) (value_part t.size s y)
      (value_part_alike t.size x y both))

at_alike : {X : Type 0} (t : Ghosts X) (r s : Root) → AreAlikeInEachMember r s
    → (answer : ℕ → Option (List ℕ)) (x y : Option Accessor)
    → option_map accessor.content x ≡ option_map accessor.content y → (result : Option (List X))
    → SomeIff result (IsReadable t.size r answer x) (items_of t r answer x)
    → SomeIff result (IsReadable t.size s answer y) (items_of t s answer y)
at_alike t r s alike answer None None shown result reads = reads
at_alike t r s alike answer None (Some b) shown result reads = cc
at_alike t r s alike answer (Some a) None shown result reads = cc
at_alike t r s alike answer (Some a) (Some b) shown result reads =
    let content : accessor.content a ≡ accessor.content b = cc in
    let same = same_accessor a b content in
    let turned = same_accessor b a (sym content) in
    same_where (items t r a (answers_by answer t.size r a))
    (items t s b (answers_by answer t.size s b)) result
    (readable_alike r s alike.buffer_views answer t.size a b same)
    (readable_alike s r (sym alike.buffer_views) answer t.size b a turned)
    (λ ready. items_alike r s alike.buffer_views t answer a b same a.sparse b.sparse same.sparse)
    reads

-- documents that show the same have the same items at each accessor
pub alike_reads : {X : Type 0} (t : Ghosts X) (r s : Root) → AreAlikeInEachMember r s
    → (answer : ℕ → Option (List ℕ)) (index : ℕ) (result : Option (List X))
    → ReadsAt t r answer index result → ReadsAt t s answer index result
alike_reads t r s alike answer index result reads =
    at_alike t r s alike answer (accessor_at r index) (accessor_at s index)
    (sym (slice_get-map accessor.content r.accessors.items index)
    ∙ ap (λ shown. slice_get shown index) alike.accessors
    ∙ slice_get-map accessor.content s.accessors.items index)
    result reads
