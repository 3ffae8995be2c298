-- Accessors and their sparse parts that show the same have the same rules.
use Rattle.std.proofs.Common.{◌≡◌, ap, ℕ}
use Rattle.std.specs.Prelude.{codes}
use Rattle.gltf_json_geometry.specs.Accessors.{accessor, indices, sparse, values}
use Rattle.gltf_json_geometry.specs.declared.accessor.sparse.Indices.{Indices}
use Rattle.gltf_json_geometry.specs.declared.accessor.sparse.Values.{Values}
use Rattle.gltf_json_geometry.specs.declared.accessor.sparse.Sparse.{Sparse}
use Rattle.gltf_json_geometry.specs.declared.accessor.Accessor.{Accessor}
use Rattle.gltf_validation.specs.declared.counts.Counts.{Counts}
use Rattle.gltf_validation.specs.Members.{code_rules, index_rules, size_rules}
use Rattle.gltf_validation.specs.Accessors.{accessor_rules, index_type_rules, indices_rules}
use Rattle.gltf_validation.specs.Accessors.{sparse_rules, values_rules}
use Rattle.gltf_validation.proofs.Alike.{at, both, optional_alike}

pub indices_rules-alike : (c : Counts) (x y : Indices) → indices.content x ≡ indices.content y
    → indices_rules c x ≡ indices_rules c y
unfolding indices
indices_rules-alike c x y e =
    both (at (codes "bufferView") (ap (index_rules c.views) (ap (λ s. s.0) e)))
    (both (at (codes "byteOffset") (ap size_rules (ap (λ s. s.1.0) e)))
    (at (codes "componentType") (ap index_type_rules (ap (λ s. s.1.1.0) e))))

pub values_rules-alike : (c : Counts) (x y : Values) → values.content x ≡ values.content y
    → values_rules c x ≡ values_rules c y
unfolding values
values_rules-alike c x y e =
    both (at (codes "bufferView") (ap (index_rules c.views) (ap (λ s. s.0) e)))
    (at (codes "byteOffset") (ap size_rules (ap (λ s. s.1.0) e)))

pub sparse_rules-alike : (c : Counts) (x y : Sparse) → sparse.content x ≡ sparse.content y
    → sparse_rules c x ≡ sparse_rules c y
unfolding sparse
sparse_rules-alike c x y e =
    both (at (codes "count") (ap size_rules (ap (λ s. s.0) e)))
    (both (at (codes "indices") (indices_rules-alike c x.indices y.indices (ap (λ s. s.1.0) e)))
    (at (codes "values") (values_rules-alike c x.values y.values (ap (λ s. s.1.1.0) e))))

pub accessor_rules-alike : (c : Counts) (x y : Accessor) → accessor.content x ≡ accessor.content y
    → accessor_rules c x ≡ accessor_rules c y
unfolding accessor
accessor_rules-alike c x y e =
    both (at (codes "bufferView") (optional_alike (λ (n : ℕ). n) (index_rules c.views)
    (λ m n. ap (index_rules c.views)) x.buffer_view y.buffer_view (ap (λ s. s.0) e)))
    (both (at (codes "byteOffset") (optional_alike (λ (n : ℕ). n) size_rules
    (λ m n. ap size_rules) x.byte_offset y.byte_offset (ap (λ s. s.1.0) e)))
    (both (at (codes "componentType") (ap code_rules (ap (λ s. s.1.1.0) e)))
    (both (at (codes "count") (ap size_rules (ap (λ s. s.1.1.1.1.0) e)))
    (both (at (codes "type") (ap code_rules (ap (λ s. s.1.1.1.1.1.0) e)))
    (at (codes "sparse") (optional_alike sparse.content (sparse_rules c)
    (sparse_rules-alike c) x.sparse y.sparse (ap (λ s. s.1.1.1.1.1.1.1.1.0) e)))))))
