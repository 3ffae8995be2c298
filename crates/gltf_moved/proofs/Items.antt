-- The items of accessors, where the views of a document move to the one buffer.
use Rattle.std.proofs.Common.{◌≡◌, ℕ, ◌-◌, ◌<◌, ◌≤◌, ◌^◌, List, length, Option, Some, None, refl}
use Rattle.std.proofs.Common.{sym}
use Rattle.std.proofs.Common.{◌∙◌, arith, unwrap_or}
use Rattle.std.specs.Prelude.{SomeIff, slice_get, option_and_then, MatchOption, ⊤, ◌++◌}
use Rattle.byteorder.specs.Endian.{little_number}
use Rattle.gltf_json.specs.declared.root.Root.{Root}
use Rattle.gltf_json_geometry.specs.declared.accessor.Accessor.{Accessor}
use Rattle.gltf_json_geometry.specs.declared.accessor.sparse.Sparse.{Sparse}
use Rattle.gltf_handles.specs.Sizes.{stored_size}
use Rattle.gltf_items.specs.Reading.{ReadsFront}
use Rattle.gltf_items.specs.ReadingLemmas.{number-reads_front}
use Rattle.gltf_items.specs.Sparse.{sparse}
use Rattle.gltf_items.specs.declared.item.Item.{Ghosts}
use Rattle.gltf_data.specs.Answers.{answers_with}
use Rattle.gltf_data.specs.Documents.{IsReadable, items_of, accessor_at, ReadsAt}
use Rattle.gltf_data.specs.Parts.{PartsReadable, items_with, view_at}
use Rattle.gltf_edit.specs.Joined.{joined}
use Rattle.gltf_moved.specs.Laws.{one_list}
use Rattle.gltf_moved.proofs.Parts.{part_after, part_before, base_after, base_before}
use Rattle.gltf_moved.proofs.Parts.{part_same, base_same}
use Rattle.gltf_moved.proofs.Named.{IsNamed}
use Rattle.gltf_moved.proofs.Views.{MovesAt}

-- the same records over other views
abbrev pub over : Root → Root → Root
over r s = record r { buffers = s.buffers; buffer_views = s.buffer_views; images = s.images }

same_where : {X P Q : Type 0} (v w : X) (out : Option X) → (P → Q) → (Q → P) → (P → v ≡ w)
    → SomeIff out P v → SomeIff out Q w
same_where v w None to from is h = λ q. h (from q)
same_where v w (Some x) to from is h = (to h.0, h.1 ∙ is h.0)

sparse_same : {X : Type 0} (zero : X) {b c : Option (List X)} (n : ℕ) {i j : List ℕ}
    {v w : List X} → b ≡ c → i ≡ j → v ≡ w → sparse zero b n i v ≡ sparse zero c n j w
sparse_same zero n bases stored given = rw (bases, stored, given) refl

module _ (buffers images : List (List ℕ)) (r s : Root)
    (views : (i : ℕ) → i < length r.buffer_views.items
    → MovesAt buffers images (view_at r i) (view_at (over r s) i))
    (names : (k : ℕ) (a : Accessor) → slice_get r.accessors.items k ≡ Some a
    → IsNamed (length r.buffer_views.items) a a.sparse) where
  abbrev count : ℕ
  count = length r.buffer_views.items

  abbrev whole : List (List ℕ)
  whole = buffers ++ images

  any_view : (i : Option ℕ) → MatchOption i ⊤ (λ i. i < count)
      → MovesAt buffers images (option_and_then (view_at r) i)
      (option_and_then (view_at (over r s)) i)
  any_view None named = tt
  any_view (Some i) named = views i named

  abbrev ReadyIn : List (List ℕ) → Root → ℕ → Accessor → Option Sparse → Type 0
  ReadyIn all r size a x = PartsReadable size r a x (answers_with (slice_get all) size r a x)

  parts_after : (size : ℕ) (a : Accessor) (x : Option Sparse) → IsNamed count a x
      → ReadyIn buffers r size a x → ReadyIn (one_list whole) (over r s) size a x
  parts_after size a None named ready =
      part_after buffers images (unwrap_or a.byte_offset 0) a.count size
      (option_and_then (view_at r) a.buffer_view)
      (option_and_then (view_at (over r s)) a.buffer_view) (any_view a.buffer_view named.base) ready
  parts_after size a (Some x) named ready = record {
    base =
        base_after buffers images (unwrap_or a.byte_offset 0) a.count size a.count
        (option_and_then (view_at r) a.buffer_view)
        (option_and_then (view_at (over r s)) a.buffer_view) (any_view a.buffer_view named.base)
        ready.base;
    indices =
        part_after buffers images x.indices.byte_offset x.count (stored_size x.indices)
        (view_at r x.indices.buffer_view) (view_at (over r s) x.indices.buffer_view)
        (views x.indices.buffer_view named.indices) ready.indices;
    values =
        part_after buffers images x.values.byte_offset x.count size
        (view_at r x.values.buffer_view) (view_at (over r s) x.values.buffer_view)
        (views x.values.buffer_view named.values) ready.values;
  }

  parts_before : (size : ℕ) (a : Accessor) (x : Option Sparse) → IsNamed count a x
      → ReadyIn (one_list whole) (over r s) size a x → ReadyIn buffers r size a x
  parts_before size a None named ready =
      part_before buffers images (unwrap_or a.byte_offset 0) a.count size
      (option_and_then (view_at r) a.buffer_view)
      (option_and_then (view_at (over r s)) a.buffer_view) (any_view a.buffer_view named.base) ready
  parts_before size a (Some x) named ready = record {
    base =
        base_before buffers images (unwrap_or a.byte_offset 0) a.count size a.count
        (option_and_then (view_at r) a.buffer_view)
        (option_and_then (view_at (over r s)) a.buffer_view) (any_view a.buffer_view named.base)
        ready.base;
    indices =
        part_before buffers images x.indices.byte_offset x.count (stored_size x.indices)
        (view_at r x.indices.buffer_view) (view_at (over r s) x.indices.buffer_view)
        (views x.indices.buffer_view named.indices) ready.indices;
    values =
        part_before buffers images x.values.byte_offset x.count size
        (view_at r x.values.buffer_view) (view_at (over r s) x.values.buffer_view)
        (views x.values.buffer_view named.values) ready.values;
  }

  module _ {X : Type 0} (t : Ghosts X) (front : t.size < 2 ^ 64 - 1 → ReadsFront t.size t.value)
      (fits : length (joined whole) < 2 ^ 32) where
    reads : t.size ≤ length (joined whole) → ReadsFront t.size t.value
    reads short = front (omega arith)

    items_after : (a : Accessor) (x : Option Sparse) → IsNamed count a x
        → ReadyIn buffers r t.size a x
        → items_with t r a x (answers_with (slice_get buffers) t.size r a x)
        ≡ items_with t (over r s) a x
        (answers_with (slice_get (one_list whole)) t.size (over r s) a x)
    items_after a None named ready =
        part_same buffers images (unwrap_or a.byte_offset 0) a.count t.size t.value reads
        (option_and_then (view_at r) a.buffer_view)
        (option_and_then (view_at (over r s)) a.buffer_view) (any_view a.buffer_view named.base)
        ready
    items_after a (Some x) named ready =
        sparse_same t.zero_item a.count
        (base_same buffers images (unwrap_or a.byte_offset 0) a.count t.size t.value reads a.count
        (option_and_then (view_at r) a.buffer_view)
        (option_and_then (view_at (over r s)) a.buffer_view) (any_view a.buffer_view named.base)
        ready.base)
        (part_same buffers images x.indices.byte_offset x.count (stored_size x.indices)
        (little_number (stored_size x.indices))
        (λ short. number-reads_front (stored_size x.indices))
        (view_at r x.indices.buffer_view) (view_at (over r s) x.indices.buffer_view)
        (views x.indices.buffer_view named.indices) ready.indices)
        (part_same buffers images x.values.byte_offset x.count t.size t.value reads
        (view_at r x.values.buffer_view) (view_at (over r s) x.values.buffer_view)
        (views x.values.buffer_view named.values) ready.values)

    at_after : (index : ℕ) (o : Option Accessor) → accessor_at r index ≡ o
        → (result : Option (List X))
        → SomeIff result (IsReadable t.size r (slice_get buffers) o)
        (items_of t r (slice_get buffers) o)
        → SomeIff result (IsReadable t.size (over r s) (slice_get (one_list whole)) o)
        (items_of t (over r s) (slice_get (one_list whole)) o)
    at_after index None there result is = is
    at_after index (Some a) there result is =
        let named = names index a there in
        same_where (items_of t r (slice_get buffers) (Some a))
        (items_of t (over r s) (slice_get (one_list whole)) (Some a)) result
        (λ ready. record {
          same_size = ready.same_size;
          parts = parts_after t.size a a.sparse named ready.parts;
        })
        (λ ready. record {
          same_size = ready.same_size;
          parts = parts_before t.size a a.sparse named ready.parts;
        })
        (λ ready. items_after a a.sparse named ready.parts) is

    at_before : (index : ℕ) (o : Option Accessor) → accessor_at r index ≡ o
        → (result : Option (List X))
        → SomeIff result (IsReadable t.size (over r s) (slice_get (one_list whole)) o)
        (items_of t (over r s) (slice_get (one_list whole)) o)
        → SomeIff result (IsReadable t.size r (slice_get buffers) o)
        (items_of t r (slice_get buffers) o)
    at_before index None there result is = is
    at_before index (Some a) there result is =
        let named = names index a there in
        same_where (items_of t (over r s) (slice_get (one_list whole)) (Some a))
        (items_of t r (slice_get buffers) (Some a)) result
        (λ ready. record {
          same_size = ready.same_size;
          parts = parts_before t.size a a.sparse named ready.parts;
        })
        (λ ready. record {
          same_size = ready.same_size;
          parts = parts_after t.size a a.sparse named ready.parts;
        })
        (λ ready.
        sym (items_after a a.sparse named (parts_before t.size a a.sparse named ready.parts))) is

    pub reads_after : (index : ℕ) (result : Option (List X))
        → ReadsAt t r (slice_get buffers) index result
        → ReadsAt t (over r s) (slice_get (one_list whole)) index result
    reads_after index result reads = at_after index (accessor_at r index) refl result reads

    pub reads_before : (index : ℕ) (result : Option (List X))
        → ReadsAt t (over r s) (slice_get (one_list whole)) index result
        → ReadsAt t r (slice_get buffers) index result
    reads_before index result reads = at_before index (accessor_at r index) refl result reads
