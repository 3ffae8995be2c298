-- Meshes, their primitives and morph targets that show the same have the same rules.
use Rattle.std.proofs.Common.{◌≡◌, ap, ℕ, List, [], ◌∷◌, map, refl}
use Rattle.std.specs.Prelude.{codes, false, string_bytes}
use Rattle.std.specs.declared.string.String.{String}
use Rattle.std.specs.declared.alloc.Global.{Global}
use Rattle.std.proofs.lemmas.Map.Lookups.{map_keys}
use Rattle.gltf_json_geometry.specs.AttributeKind.{attributes}
use Rattle.gltf_json_geometry.specs.Meshes.{morph_target, primitive, mesh}
use Rattle.gltf_json_geometry.specs.Semantics.{semantic_name}
use Rattle.gltf_json_geometry.specs.declared.semantic.Semantic.{Semantic}
use Rattle.gltf_json_geometry.specs.declared.mesh.MorphTarget.{MorphTarget}
use Rattle.gltf_json_geometry.specs.declared.mesh.Primitive.{Primitive}
use Rattle.gltf_json_geometry.specs.declared.mesh.Mesh.{Mesh}
use Rattle.gltf_json_record.specs.Place.{keyed}
use Rattle.gltf_validation.specs.declared.counts.Counts.{Counts}
use Rattle.gltf_validation.specs.declared.error.Error.TheVariants.{Invalid}
use Rattle.gltf_validation.specs.Rules.{Rules, Condition, At}
use Rattle.gltf_validation.specs.Members.{code_rules, index_rules}
use Rattle.gltf_validation.specs.Meshes.{morph_target_rules, entries_rules, unknown_rules}
use Rattle.gltf_validation.specs.Meshes.{primitive_rules, mesh_rules}
use Rattle.gltf_validation.proofs.Alike.{at, both, list_alike, optional_alike}

pub morph_target_rules-alike : (c : Counts) (x y : MorphTarget)
    → morph_target.content x ≡ morph_target.content y
    → morph_target_rules c x ≡ morph_target_rules c y
unfolding morph_target
morph_target_rules-alike c x y e =
    both (at (codes "POSITION") (optional_alike (λ (n : ℕ). n) (index_rules c.accessors)
    (λ m n. ap (index_rules c.accessors)) x.positions y.positions (ap (λ s. s.0) e)))
    (both (at (codes "NORMAL") (optional_alike (λ (n : ℕ). n) (index_rules c.accessors)
    (λ m n. ap (index_rules c.accessors)) x.normals y.normals (ap (λ s. s.1.0) e)))
    (at (codes "TANGENT") (optional_alike (λ (n : ℕ). n) (index_rules c.accessors)
    (λ m n. ap (index_rules c.accessors)) x.tangents y.tangents (ap (λ s. s.1.1) e))))

entries_alike : (rules : ℕ → Rules) (xs ys : List (Semantic × ℕ))
    → map_keys semantic_name xs ≡ map_keys semantic_name ys
    → entries_rules rules xs ≡ entries_rules rules ys
entries_alike rules [] [] e = refl
entries_alike rules [] (y ∷ ys) e = cc
entries_alike rules (x ∷ xs) [] e = cc
entries_alike rules (x ∷ xs) (y ∷ ys) e =
    let first : (let shown : List ℕ × ℕ = (semantic_name x.0, x.1) in
    shown ≡ (semantic_name y.0, y.1)) = cc in
    let rest : map_keys semantic_name xs ≡ map_keys semantic_name ys = cc in
    both (ap (λ (s : List ℕ × ℕ). At (keyed s.0) (rules s.1)) first)
    (entries_alike rules xs ys rest)

unknown_alike : (xs ys : List (String Global)) → map string_bytes xs ≡ map string_bytes ys
    → unknown_rules xs ≡ unknown_rules ys
unknown_alike [] [] e = refl
unknown_alike [] (y ∷ ys) e = cc
unknown_alike (x ∷ xs) [] e = cc
unknown_alike (x ∷ xs) (y ∷ ys) e =
    let first : string_bytes x ≡ string_bytes y = cc in
    let rest : map string_bytes xs ≡ map string_bytes ys = cc in
    both (ap (λ t. At (keyed t) (Condition false Invalid)) first) (unknown_alike xs ys rest)

pub primitive_rules-alike : (c : Counts) (x y : Primitive)
    → primitive.content x ≡ primitive.content y → primitive_rules c x ≡ primitive_rules c y
unfolding primitive attributes
primitive_rules-alike c x y e =
    both (at (codes "attributes")
    (both (entries_alike (index_rules c.accessors) x.attributes.entries y.attributes.entries
    (ap (λ s. s.0.0) e))
    (unknown_alike x.unknown_attributes.items y.unknown_attributes.items (ap (λ s. s.0.1) e))))
    (both (at (codes "indices") (optional_alike (λ (n : ℕ). n) (index_rules c.accessors)
    (λ m n. ap (index_rules c.accessors)) x.indices y.indices (ap (λ s. s.1.0) e)))
    (both (at (codes "material") (optional_alike (λ (n : ℕ). n) (index_rules c.materials)
    (λ m n. ap (index_rules c.materials)) x.material y.material (ap (λ s. s.1.1.0) e)))
    (both (at (codes "mode") (ap code_rules (ap (λ s. s.1.1.1.0) e)))
    (at (codes "targets") (list_alike morph_target.content (morph_target_rules c)
    (morph_target_rules-alike c) x.targets.items y.targets.items (ap (λ s. s.1.1.1.1.0) e))))))

pub mesh_rules-alike : (c : Counts) (x y : Mesh) → mesh.content x ≡ mesh.content y
    → mesh_rules c x ≡ mesh_rules c y
unfolding mesh
mesh_rules-alike c x y e =
    at (codes "primitives") (list_alike primitive.content (primitive_rules c)
    (primitive_rules-alike c) x.primitives.items y.primitives.items (ap (λ s. s.0) e))
