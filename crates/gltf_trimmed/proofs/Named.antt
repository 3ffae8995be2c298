-- The views that an accessor names stay.
use Rattle.std.proofs.Common.{◌≡◌, ℕ, ◌<◌, List, length, Option, Some, sym, ap, subst}
use Rattle.std.proofs.Common.{◌∙◌, codes, slice_get}
use Rattle.std.specs.Prelude.{option_and_then}
use Rattle.serde_json.specs.Data.{Data}
use Rattle.serde_json.specs.Find.{get}
use Rattle.gltf_edit.specs.Bundled.{size_at}
use Rattle.gltf_edit.specs.Embedded.{items_at, count_at}
use Rattle.gltf_json.specs.Documents.{root}
use Rattle.gltf_json.specs.declared.root.Root.{Root}
use Rattle.gltf_json_geometry.specs.Accessors.{accessor, sparse, indices, values}
use Rattle.gltf_json_geometry.specs.Buffers.{buffer_view}
use Rattle.gltf_json_geometry.specs.declared.accessor.Accessor.{Accessor}
use Rattle.gltf_json_geometry.specs.declared.accessor.sparse.Sparse.{Sparse}
use Rattle.gltf_trim.specs.Marks.{sparse_view, staying}
use Rattle.gltf_trimmed.proofs.Marked.{Names, Base, Indices, Values, stays}
use Rattle.gltf_trimmed.proofs.Rows.{all_read, read_at, optional_there, required_there, count_read}
use Rattle.gltf_trimmed.proofs.Sizes.{optional_index, required_index}

sparse_is : (name : List ℕ) (d part whole : Data) (v : ℕ) → get (codes "sparse") d ≡ Some whole
    → get name whole ≡ Some part → size_at (codes "bufferView") part ≡ Some v
    → sparse_view name d ≡ Some v
sparse_is name d part whole v sparse there is =
    ap (λ o. option_and_then (size_at (codes "bufferView")) (option_and_then (get name) o)) sparse
    ∙ ap (option_and_then (size_at (codes "bufferView"))) there
    ∙ is

module _ (d : Data) (a : Accessor) (is : accessor.is d a) where
  base_named : (v : ℕ) → a.buffer_view ≡ Some v → Names d v
  unfolding accessor
  base_named v named = Base (optional_index (codes "bufferView") d a.buffer_view is.1.0 ∙ named)

  module _ (x : Sparse) (has : a.sparse ≡ Some x) where
    indices_named : Names d x.indices.buffer_view
    unfolding accessor sparse indices
    indices_named =
        let whole = optional_there sparse.is (get (codes "sparse") d) a.sparse x
        is.1.1.1.1.1.1.1.1.1.0 has in
        let part = required_there indices.is (get (codes "indices") whole.value) x.indices
        whole.is.1.1.0 in
        Indices (sparse_is (codes "indices") d part.value whole.value x.indices.buffer_view
        whole.there part.there
        (required_index (codes "bufferView") part.value x.indices.buffer_view part.is.1.0))

    values_named : Names d x.values.buffer_view
    unfolding accessor sparse values
    values_named =
        let whole = optional_there sparse.is (get (codes "sparse") d) a.sparse x
        is.1.1.1.1.1.1.1.1.1.0 has in
        let part = required_there values.is (get (codes "values") whole.value) x.values
        whole.is.1.1.1.0 in
        Values (sparse_is (codes "values") d part.value whole.value x.values.buffer_view
        whole.there part.there
        (required_index (codes "bufferView") part.value x.values.buffer_view part.is.1.0))

-- each view that an accessor and its sparse part name, where it is there, is among the first n of
-- so many
pub record IsNamed (count n : ℕ) (a : Accessor) (s : Option Sparse) : Type 0 where
  pub base : (v : ℕ) → a.buffer_view ≡ Some v → v < count → v < n
  pub indices : (x : Sparse) → s ≡ Some x → x.indices.buffer_view < count
      → x.indices.buffer_view < n
  pub values : (x : Sparse) → s ≡ Some x → x.values.buffer_view < count
      → x.values.buffer_view < n

module _ (d : Data) (r : Root) (is : root.is d r) where
  view_count : count_at (codes "bufferViews") d ≡ length r.buffer_views.items
  unfolding root
  view_count =
      count_read buffer_view.is (codes "bufferViews") d r.buffer_views.items is.1.1.1.1.1.0

  pub named : (k : ℕ) (a : Accessor) → slice_get r.accessors.items k ≡ Some a
      → IsNamed (length r.buffer_views.items) (staying d) a a.sparse
  unfolding root
  named k a there =
      let all = all_read accessor.is (codes "accessors") d r.accessors.items is.1.1.0 in
      let found = read_at accessor.is (items_at (codes "accessors") d) r.accessors.items k a all
      there in
      let e = found.value in
      let fits = λ (v : ℕ) (names : Names e v) (h : v < length r.buffer_views.items).
      stays d e k v found.there names (subst (λ (n : ℕ). v < n) (sym view_count) h) in
      record {
        base = λ v has h. fits v (base_named e a found.is v has) h;
        indices =
            λ x has h. fits x.indices.buffer_view (indices_named e a found.is x has) h;
        values = λ x has h. fits x.values.buffer_view (values_named e a found.is x has) h;
      }
