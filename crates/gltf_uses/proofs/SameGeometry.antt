-- The rules of accessors, buffer views and meshes, where none of their uses is of element i of a
-- list: they are the same whether the list ends before that element or after it.
use Rattle.std.proofs.Common.{◌≡◌, ℕ, ◌+◌, refl}
use Rattle.std.specs.Prelude.{codes}
use Rattle.gltf_json_geometry.specs.declared.accessor.sparse.Indices.{Indices}
use Rattle.gltf_json_geometry.specs.declared.accessor.sparse.Values.{Values}
use Rattle.gltf_json_geometry.specs.declared.accessor.sparse.Sparse.{Sparse}
use Rattle.gltf_json_geometry.specs.declared.accessor.Accessor.{Accessor}
use Rattle.gltf_json_geometry.specs.declared.buffer.View.{View}
use Rattle.gltf_json_geometry.specs.declared.mesh.MorphTarget.{MorphTarget}
use Rattle.gltf_json_geometry.specs.declared.mesh.Primitive.{Primitive}
use Rattle.gltf_json_geometry.specs.declared.mesh.Mesh.{Mesh}
use Rattle.gltf_validation.specs.declared.counts.Counts.{Counts}
use Rattle.gltf_validation.specs.Accessors.{indices_rules, values_rules, sparse_rules}
use Rattle.gltf_validation.specs.Accessors.{accessor_rules}
use Rattle.gltf_validation.specs.Buffers.{view_rules}
use Rattle.gltf_validation.specs.Meshes.{morph_target_rules, primitive_rules, mesh_rules}
use Rattle.gltf_uses.specs.declared.kind.Kind.{Kind}
use Rattle.gltf_uses.specs.declared.kind.Kind.TheVariants as list
use Rattle.gltf_uses.specs.Geometry.{indices_uses, values_uses, sparse_uses, accessor_uses}
use Rattle.gltf_uses.specs.Geometry.{view_uses, morph_target_uses, primitive_uses, mesh_uses}
use Rattle.gltf_uses.specs.Lengths.{with_length}
use Rattle.gltf_uses.proofs.Free.{Free, at, both, one_index, optional_index, entries_index}
use Rattle.gltf_uses.proofs.Free.{optional_same, list_same}

module _ (kind : Kind) (i : ℕ) (c : Counts) where
  abbrev before : Counts
  before = with_length kind i c

  abbrev after : Counts
  after = with_length kind (i + 1) c

  pub indices_same : (r : Indices) → Free kind i (indices_uses r)
      → indices_rules before r ≡ indices_rules after r
  indices_same r free =
      both
      (at (codes "bufferView") (one_index kind i list.View c.views r.buffer_view free))
      (both refl
      refl)

  pub values_same : (r : Values) → Free kind i (values_uses r)
      → values_rules before r ≡ values_rules after r
  values_same r free =
      both
      (at (codes "bufferView") (one_index kind i list.View c.views r.buffer_view free))
      refl

  pub sparse_same : (r : Sparse) → Free kind i (sparse_uses r)
      → sparse_rules before r ≡ sparse_rules after r
  sparse_same r free =
      both refl
      (both
      (at (codes "indices") (indices_same r.indices free.0))
      (at (codes "values") (values_same r.values free.1)))

  pub accessor_same : (r : Accessor) → Free kind i (accessor_uses r)
      → accessor_rules before r ≡ accessor_rules after r
  accessor_same r free =
      both
      (at (codes "bufferView") (optional_index kind i list.View c.views r.buffer_view
      free.0))
      (both refl
      (both refl
      (both refl
      (both refl
      (at (codes "sparse") (optional_same kind i (sparse_rules before)
      (sparse_rules after) sparse_uses sparse_same r.sparse free.1))))))

  pub view_same : (r : View) → Free kind i (view_uses r)
      → view_rules before r ≡ view_rules after r
  view_same r free =
      both
      (at (codes "buffer") (one_index kind i list.Buffer c.buffers r.buffer free))
      (both refl
      (both refl
      (both refl
      refl)))

  pub morph_target_same : (r : MorphTarget) → Free kind i (morph_target_uses r)
      → morph_target_rules before r ≡ morph_target_rules after r
  morph_target_same r free =
      both
      (at (codes "POSITION") (optional_index kind i list.Accessor c.accessors r.positions
      free.0))
      (both
      (at (codes "NORMAL") (optional_index kind i list.Accessor c.accessors r.normals
      free.1.0))
      (at (codes "TANGENT") (optional_index kind i list.Accessor c.accessors r.tangents
      free.1.1)))

  pub primitive_same : (r : Primitive) → Free kind i (primitive_uses r)
      → primitive_rules before r ≡ primitive_rules after r
  primitive_same r free =
      both
      (at (codes "attributes") (both (entries_index kind i list.Accessor c.accessors
      r.attributes.entries free.0) refl))
      (both
      (at (codes "indices") (optional_index kind i list.Accessor c.accessors r.indices
      free.1.0))
      (both
      (at (codes "material") (optional_index kind i list.Material c.materials r.material
      free.1.1.0))
      (both refl
      (at (codes "targets") (list_same kind i (morph_target_rules before)
      (morph_target_rules after) morph_target_uses morph_target_same r.targets.items
      free.1.1.1.0)))))

  pub mesh_same : (r : Mesh) → Free kind i (mesh_uses r)
      → mesh_rules before r ≡ mesh_rules after r
  mesh_same r free =
      at (codes "primitives") (list_same kind i (primitive_rules before)
      (primitive_rules after) primitive_uses primitive_same r.primitives.items free)
