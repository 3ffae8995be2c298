-- Marks of views: they are of the views of vertices.
use Rattle.std.proofs.Common.{◌≡◌, ◌+◌, ℕ, Bool, true, List, [], ◌∷◌, ◌++◌, set, refl, sym, ◌∙◌, ap}
use Rattle.std.specs.Prelude.{flat_map}
use Rattle.gltf_json_geometry.specs.declared.accessor.Accessor.{Accessor}
use Rattle.gltf_json_geometry.specs.declared.buffer.View.{View}
use Rattle.gltf_json_geometry.specs.declared.mesh.Mesh.{Mesh}
use Rattle.gltf_json_geometry.specs.declared.mesh.MorphTarget.{MorphTarget}
use Rattle.gltf_json_geometry.specs.declared.mesh.Primitive.{Primitive}
use Rattle.gltf_json_geometry.specs.declared.semantic.Semantic.{Semantic}
use Rattle.gltf_inspect_nodes.specs.Marks.{marked}
use Rattle.gltf_inspect_nodes.specs.ViewMarks.{optional_marked, entries_marked, target_marked}
use Rattle.gltf_inspect_nodes.specs.ViewMarks.{targets_marked, primitive_marked}
use Rattle.gltf_inspect_nodes.specs.ViewMarks.{primitives_marked, meshes_marked}
use Rattle.gltf_inspect_nodes.specs.ViewTargets.{view_at, optional_views, entries_views}
use Rattle.gltf_inspect_nodes.specs.ViewTargets.{target_views, primitive_views, mesh_views}
use Rattle.gltf_inspect_nodes.specs.ViewTargets.{views_checks}

-- marking these and then those is marking all
both : (marks : List Bool) (xs ys : List ℕ)
    → marked marks (xs ++ ys) ≡ marked (marked marks xs) ys
both marks [] ys = refl
both marks (x ∷ xs) ys = both (set marks x true) xs ys

three : (marks : List Bool) (xs ys zs : List ℕ)
    → marked marks (xs ++ ys ++ zs) ≡ marked (marked (marked marks xs) ys) zs
three marks xs ys zs =
    both marks (xs ++ ys) zs ∙ ap (λ m. marked m zs) (both marks xs ys)

all_entries : (accessors : List Accessor) (marks : List Bool) (es : List (Semantic × ℕ))
    → entries_marked accessors marks es ≡ marked marks (entries_views accessors es)
all_entries accessors marks [] = refl
all_entries accessors marks (e ∷ es) =
    all_entries accessors (marked marks (view_at accessors e.1)) es
    ∙ sym (both marks (view_at accessors e.1) (entries_views accessors es))

all_target : (accessors : List Accessor) (marks : List Bool) (t : MorphTarget)
    → target_marked accessors marks t ≡ marked marks (target_views accessors t)
all_target accessors marks t =
    sym (three marks (optional_views accessors t.positions) (optional_views accessors t.normals)
    (optional_views accessors t.tangents))

all_targets : (accessors : List Accessor) (marks : List Bool) (ts : List MorphTarget)
    → targets_marked accessors marks ts ≡ marked marks (flat_map (target_views accessors) ts)
all_targets accessors marks [] = refl
all_targets accessors marks (t ∷ ts) =
    all_targets accessors (target_marked accessors marks t) ts
    ∙ ap (λ x. marked x (flat_map (target_views accessors) ts)) (all_target accessors marks t)
    ∙ sym (both marks (target_views accessors t) (flat_map (target_views accessors) ts))

all_primitive : (accessors : List Accessor) (marks : List Bool) (p : Primitive)
    → primitive_marked accessors marks p ≡ marked marks (primitive_views accessors p)
all_primitive accessors marks p =
    all_targets accessors (entries_marked accessors (optional_marked accessors marks p.indices)
    p.attributes.entries) p.targets.items
    ∙ ap (λ x. marked x (flat_map (target_views accessors) p.targets.items))
    (all_entries accessors (optional_marked accessors marks p.indices) p.attributes.entries)
    ∙ sym (three marks (optional_views accessors p.indices)
    (entries_views accessors p.attributes.entries)
    (flat_map (target_views accessors) p.targets.items))

all_primitives : (accessors : List Accessor) (marks : List Bool) (ps : List Primitive)
    → primitives_marked accessors marks ps ≡ marked marks (flat_map (primitive_views accessors) ps)
all_primitives accessors marks [] = refl
all_primitives accessors marks (p ∷ ps) =
    all_primitives accessors (primitive_marked accessors marks p) ps
    ∙ ap (λ x. marked x (flat_map (primitive_views accessors) ps)) (all_primitive accessors marks p)
    ∙ sym (both marks (primitive_views accessors p) (flat_map (primitive_views accessors) ps))

pub all_meshes : (accessors : List Accessor) (marks : List Bool) (ms : List Mesh)
    → meshes_marked accessors marks ms ≡ marked marks (flat_map (mesh_views accessors) ms)
all_meshes accessors marks [] = refl
all_meshes accessors marks (m ∷ ms) =
    all_meshes accessors (primitives_marked accessors marks m.primitives.items) ms
    ∙ ap (λ x. marked x (flat_map (mesh_views accessors) ms))
    (all_primitives accessors marks m.primitives.items)
    ∙ sym (both marks (mesh_views accessors m) (flat_map (mesh_views accessors) ms))

pub same_views : (f g : ℕ → Bool) (i : ℕ) (vs : List View) → ((k : ℕ) → f k ≡ g k)
    → views_checks f i vs ≡ views_checks g i vs
same_views f g i [] same = refl
same_views f g i (v ∷ vs) same = rw (same i, same_views f g (i + 1) vs same) refl
