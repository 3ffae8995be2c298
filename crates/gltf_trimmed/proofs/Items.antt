-- The items of accessors, over fewer views and over what is left of the bytes.
use Rattle.std.proofs.Common.{◌≡◌, ℕ, ◌-◌, ◌<◌, ◌^◌, List, length, Option, Some, None, refl, sym}
use Rattle.std.proofs.Common.{◌∙◌, unwrap_or, slice_get}
use Rattle.std.specs.Prelude.{SomeIff, option_and_then}
use Rattle.byteorder.specs.Endian.{little_number}
use Rattle.gltf_json.specs.declared.root.Root.{Root}
use Rattle.gltf_json_geometry.specs.declared.accessor.Accessor.{Accessor}
use Rattle.gltf_json_geometry.specs.declared.accessor.sparse.Sparse.{Sparse}
use Rattle.gltf_handles.specs.Sizes.{stored_size}
use Rattle.gltf_items.specs.Reading.{ReadsFront}
use Rattle.gltf_items.specs.ReadingLemmas.{number-reads_front}
use Rattle.gltf_items.specs.Sparse.{sparse}
use Rattle.gltf_items.specs.declared.item.Item.{Ghosts}
use Rattle.gltf_data.specs.Answers.{answers_with}
use Rattle.gltf_data.specs.Documents.{IsReadable, items_of, accessor_at, ReadsAt}
use Rattle.gltf_data.specs.Parts.{PartsReadable, items_with, view_at}
use Rattle.gltf_trimmed.proofs.Named.{IsNamed}
use Rattle.gltf_trimmed.proofs.Parts.{Answer, StaysAt, part_after, part_before, base_after}
use Rattle.gltf_trimmed.proofs.Parts.{base_before, part_same, base_same}
use Rattle.gltf_trimmed.proofs.Short.{short_root}

same_where : {X P Q : Type 0} (v w : X) (out : Option X) → (P → Q) → (Q → P) → (P → v ≡ w)
    → SomeIff out P v → SomeIff out Q w
same_where v w None to from is h = λ q. h (from q)
same_where v w (Some x) to from is h = (to h.0, h.1 ∙ is h.0)

sparse_same : {X : Type 0} (zero : X) {b c : Option (List X)} (n : ℕ) {i j : List ℕ}
    {v w : List X} → b ≡ c → i ≡ j → v ≡ w → sparse zero b n i v ≡ sparse zero c n j w
sparse_same zero n bases stored given = rw (bases, stored, given) refl

module _ (old new : Answer) (n : ℕ) (ls : List (Option ℕ)) (r : Root)
    (views : (i : ℕ) → (i < length r.buffer_views.items → i < n)
    → StaysAt old new (view_at r i) (view_at (short_root n ls r) i))
    (names : (k : ℕ) (a : Accessor) → slice_get r.accessors.items k ≡ Some a
    → IsNamed (length r.buffer_views.items) n a a.sparse) where
  abbrev count : ℕ
  count = length r.buffer_views.items

  abbrev s : Root
  s = short_root n ls r

  any_view : (o : Option ℕ) → ((v : ℕ) → o ≡ Some v → v < count → v < n)
      → StaysAt old new (option_and_then (view_at r) o) (option_and_then (view_at s) o)
  any_view None named = tt
  any_view (Some i) named = views i (named i refl)

  abbrev ReadyIn : Answer → Root → ℕ → Accessor → Option Sparse → Type 0
  ReadyIn answer r size a x = PartsReadable size r a x (answers_with answer size r a x)

  parts_after : (size : ℕ) (a : Accessor) (x : Option Sparse) → IsNamed count n a x
      → ReadyIn old r size a x → ReadyIn new s size a x
  parts_after size a None named ready =
      part_after old new (unwrap_or a.byte_offset 0) a.count size
      (option_and_then (view_at r) a.buffer_view) (option_and_then (view_at s) a.buffer_view)
      (any_view a.buffer_view named.base) ready
  parts_after size a (Some x) named ready = record {
    base =
        base_after old new (unwrap_or a.byte_offset 0) a.count size a.count
        (option_and_then (view_at r) a.buffer_view) (option_and_then (view_at s) a.buffer_view)
        (any_view a.buffer_view named.base) ready.base;
    indices =
        part_after old new x.indices.byte_offset x.count (stored_size x.indices)
        (view_at r x.indices.buffer_view) (view_at s x.indices.buffer_view)
        (views x.indices.buffer_view (named.indices x refl)) ready.indices;
    values =
        part_after old new x.values.byte_offset x.count size
        (view_at r x.values.buffer_view) (view_at s x.values.buffer_view)
        (views x.values.buffer_view (named.values x refl)) ready.values;
  }

  parts_before : (size : ℕ) (a : Accessor) (x : Option Sparse) → IsNamed count n a x
      → ReadyIn new s size a x → ReadyIn old r size a x
  parts_before size a None named ready =
      part_before old new (unwrap_or a.byte_offset 0) a.count size
      (option_and_then (view_at r) a.buffer_view) (option_and_then (view_at s) a.buffer_view)
      (any_view a.buffer_view named.base) ready
  parts_before size a (Some x) named ready = record {
    base =
        base_before old new (unwrap_or a.byte_offset 0) a.count size a.count
        (option_and_then (view_at r) a.buffer_view) (option_and_then (view_at s) a.buffer_view)
        (any_view a.buffer_view named.base) ready.base;
    indices =
        part_before old new x.indices.byte_offset x.count (stored_size x.indices)
        (view_at r x.indices.buffer_view) (view_at s x.indices.buffer_view)
        (views x.indices.buffer_view (named.indices x refl)) ready.indices;
    values =
        part_before old new x.values.byte_offset x.count size
        (view_at r x.values.buffer_view) (view_at s x.values.buffer_view)
        (views x.values.buffer_view (named.values x refl)) ready.values;
  }

  module _ {X : Type 0} (t : Ghosts X) (front : t.size < 2 ^ 64 - 1 → ReadsFront t.size t.value)
    where
      items_after : (a : Accessor) (x : Option Sparse) → IsNamed count n a x
          → ReadyIn old r t.size a x
          → items_with t r a x (answers_with old t.size r a x)
          ≡ items_with t s a x (answers_with new t.size s a x)
      items_after a None named ready =
          part_same old new (unwrap_or a.byte_offset 0) a.count t.size t.value front
          (option_and_then (view_at r) a.buffer_view) (option_and_then (view_at s) a.buffer_view)
          (any_view a.buffer_view named.base) ready
      items_after a (Some x) named ready =
          sparse_same t.zero_item a.count
          (base_same old new (unwrap_or a.byte_offset 0) a.count t.size t.value front a.count
          (option_and_then (view_at r) a.buffer_view) (option_and_then (view_at s) a.buffer_view)
          (any_view a.buffer_view named.base) ready.base)
          (part_same old new x.indices.byte_offset x.count (stored_size x.indices)
          (little_number (stored_size x.indices))
          (λ short. number-reads_front (stored_size x.indices))
          (view_at r x.indices.buffer_view) (view_at s x.indices.buffer_view)
          (views x.indices.buffer_view (named.indices x refl)) ready.indices)
          (part_same old new x.values.byte_offset x.count t.size t.value front
          (view_at r x.values.buffer_view) (view_at s x.values.buffer_view)
          (views x.values.buffer_view (named.values x refl)) ready.values)

      at_after : (index : ℕ) (o : Option Accessor) → accessor_at r index ≡ o
          → (result : Option (List X))
          → SomeIff result (IsReadable t.size r old o) (items_of t r old o)
          → SomeIff result (IsReadable t.size s new o) (items_of t s new o)
      at_after index None there result is = is
      at_after index (Some a) there result is =
          let named = names index a there in
          same_where (items_of t r old (Some a)) (items_of t s new (Some a)) result
          (λ ready. record {
            same_size = ready.same_size;
            parts = parts_after t.size a a.sparse named ready.parts;
          })
          (λ ready. record {
            same_size = ready.same_size;
            parts = parts_before t.size a a.sparse named ready.parts;
          })
          (λ ready. items_after a a.sparse named ready.parts) is

      at_before : (index : ℕ) (o : Option Accessor) → accessor_at r index ≡ o
          → (result : Option (List X))
          → SomeIff result (IsReadable t.size s new o) (items_of t s new o)
          → SomeIff result (IsReadable t.size r old o) (items_of t r old o)
      at_before index None there result is = is
      at_before index (Some a) there result is =
          let named = names index a there in
          same_where (items_of t s new (Some a)) (items_of t r old (Some a)) result
          (λ ready. record {
            same_size = ready.same_size;
            parts = parts_before t.size a a.sparse named ready.parts;
          })
          (λ ready. record {
            same_size = ready.same_size;
            parts = parts_after t.size a a.sparse named ready.parts;
          })
          (λ ready.
          sym (items_after a a.sparse named (parts_before t.size a a.sparse named ready.parts))) is

      pub reads_after : (index : ℕ) (result : Option (List X))
          → ReadsAt t r old index result → ReadsAt t s new index result
      reads_after index result reads = at_after index (accessor_at r index) refl result reads

      pub reads_before : (index : ℕ) (result : Option (List X))
          → ReadsAt t s new index result → ReadsAt t r old index result
      reads_before index result reads = at_before index (accessor_at r index) refl result reads
