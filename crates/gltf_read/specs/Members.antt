-- The indices that a document has for what readers read.
use Rattle.std.specs.Prelude.{◌≡◌, ℕ, Option, slice_get}
use Rattle.std.specs.BTreeMap.{get_by}
use Rattle.std.specs.Option.{option_map, option_and_then}
use Rattle.gltf_json.specs.declared.root.Root.{Root}
use Rattle.gltf_json_animation.specs.declared.animation.Property.{Property}
use Rattle.gltf_json_geometry.specs.Semantics.{semantic_cmp}
use Rattle.gltf_json_geometry.specs.declared.mesh.MorphTarget.{MorphTarget as MorphTargetRecord}
use Rattle.gltf_json_geometry.specs.declared.mesh.Primitive.{Primitive as PrimitiveRecord}
use Rattle.gltf_json_geometry.specs.declared.semantic.Semantic.{Semantic}
use Rattle.gltf_read.specs.Channels.{input_of, output_of, property_of}

-- primitive p of mesh m, and target t of that
abbrev pub primitive_at : Root → ℕ → ℕ → Option PrimitiveRecord
primitive_at r m p =
    option_and_then (λ x. slice_get x.primitives.items p) (slice_get r.meshes.items m)

abbrev pub target_at : Root → ℕ → ℕ → ℕ → Option MorphTargetRecord
target_at r m p t = option_and_then (λ x. slice_get x.targets.items t) (primitive_at r m p)

-- the index that a primitive has for an attribute, and for its indices
abbrev pub attribute_at : Root → ℕ → ℕ → Semantic → Option ℕ
attribute_at r m p s =
    option_and_then (λ x. get_by (semantic_cmp s) x.attributes) (primitive_at r m p)

abbrev pub indices_at : Root → ℕ → ℕ → Option ℕ
indices_at r m p = option_and_then (λ x. x.indices) (primitive_at r m p)

-- those that a morph target has for positions, normals and tangents
abbrev pub displacements_at : Root → ℕ → ℕ → ℕ → Option (Option ℕ × Option ℕ × Option ℕ)
displacements_at r m p t =
    option_map (λ x. (x.positions, x.normals, x.tangents)) (target_at r m p t)

-- that of skin k for its matrices
abbrev pub matrices_at : Root → ℕ → Option ℕ
matrices_at r k = option_and_then (λ x. x.inverse_bind_matrices) (slice_get r.skins.items k)

-- those of channel c of animation a for times and values, and what it animates
abbrev pub input_at : Root → ℕ → ℕ → Option ℕ
input_at r a c =
    option_and_then (λ x. option_and_then (input_of x) (slice_get x.channels.items c))
    (slice_get r.animations.items a)

abbrev pub output_at : Root → ℕ → ℕ → Option ℕ
output_at r a c =
    option_and_then (λ x. option_and_then (output_of x) (slice_get x.channels.items c))
    (slice_get r.animations.items a)

abbrev pub property_at : Root → ℕ → ℕ → Option Property
property_at r a c =
    option_and_then (λ x. option_and_then property_of (slice_get x.channels.items c))
    (slice_get r.animations.items a)

-- two documents have the same of each
pub record HaveSameIndices (r s : Root) : Type 0 where
  pub attributes : (m p : ℕ) (a : Semantic) → attribute_at r m p a ≡ attribute_at s m p a
  pub indices : (m p : ℕ) → indices_at r m p ≡ indices_at s m p
  pub displacements : (m p t : ℕ) → displacements_at r m p t ≡ displacements_at s m p t
  pub matrices : (k : ℕ) → matrices_at r k ≡ matrices_at s k
  pub inputs : (a c : ℕ) → input_at r a c ≡ input_at s a c
  pub outputs : (a c : ℕ) → output_at r a c ≡ output_at s a c
  pub properties : (a c : ℕ) → property_at r a c ≡ property_at s a c
