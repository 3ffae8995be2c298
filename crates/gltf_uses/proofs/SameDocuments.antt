-- The rules of a document in which no member names element i of a list: they are the same whether
-- the list ends before that element or after it.
use Rattle.std.proofs.Common.{◌≡◌, ℕ, ◌+◌, [], refl}
use Rattle.std.specs.Prelude.{codes}
use Rattle.std.specs.List.{filter}
use Rattle.gltf_json.specs.declared.root.Root.{Root}
use Rattle.gltf_validation.specs.Accessors.{accessor_rules}
use Rattle.gltf_validation.specs.Animations.{animation_rules}
use Rattle.gltf_validation.specs.Buffers.{view_rules}
use Rattle.gltf_validation.specs.Documents.{first_members_rules, later_members_rules, root_rules}
use Rattle.gltf_validation.specs.Images.{image_rules}
use Rattle.gltf_validation.specs.Materials.{material_rules}
use Rattle.gltf_validation.specs.Meshes.{mesh_rules}
use Rattle.gltf_validation.specs.Scenes.{node_rules, scene_rules}
use Rattle.gltf_validation.specs.Skins.{skin_rules}
use Rattle.gltf_validation.specs.Textures.{texture_rules}
use Rattle.gltf_validation.specs.declared.counts.Counts.{Counts}
use Rattle.gltf_uses.specs.Animations.{animation_uses}
use Rattle.gltf_uses.specs.Documents.{first_members_uses, later_members_uses, root_uses}
use Rattle.gltf_uses.specs.Geometry.{accessor_uses, view_uses, mesh_uses}
use Rattle.gltf_uses.specs.Lengths.{with_length}
use Rattle.gltf_uses.specs.Materials.{material_uses}
use Rattle.gltf_uses.specs.References.{held, names, references_of}
use Rattle.gltf_uses.specs.Scenes.{image_uses, texture_uses, node_uses, scene_uses, skin_uses}
use Rattle.gltf_uses.specs.declared.kind.Kind.{Kind}
use Rattle.gltf_uses.specs.declared.kind.Kind.TheVariants as list
use Rattle.gltf_uses.proofs.Free.{Free, at, both, free_where_none, list_same, nil_of}
use Rattle.gltf_uses.proofs.Free.{optional_index}
use Rattle.gltf_uses.proofs.SameAnimations.{animation_same}
use Rattle.gltf_uses.proofs.SameGeometry.{accessor_same, view_same, mesh_same}
use Rattle.gltf_uses.proofs.SameMaterials.{material_same}
use Rattle.gltf_uses.proofs.SameScenes.{image_same, texture_same, node_same, scene_same, skin_same}

module _ (kind : Kind) (i : ℕ) (c : Counts) where
  abbrev before : Counts
  before = with_length kind i c

  abbrev after : Counts
  after = with_length kind (i + 1) c

  first_same : (r : Root) → Free kind i (first_members_uses r)
      → first_members_rules before r ≡ first_members_rules after r
  first_same r free =
      both (at (codes "accessors") (list_same kind i (accessor_rules before)
      (accessor_rules after) accessor_uses (accessor_same kind i c) r.accessors.items free.0))
      (both (at (codes "animations") (list_same kind i (animation_rules before)
      (animation_rules after) animation_uses (animation_same kind i c) r.animations.items
      free.1.0))
      (both refl
      (both (at (codes "bufferViews") (list_same kind i (view_rules before) (view_rules after)
      view_uses (view_same kind i c) r.buffer_views.items free.1.1.0))
      (both refl
      (both (at (codes "images") (list_same kind i (image_rules before) (image_rules after)
      image_uses (image_same kind i c) r.images.items free.1.1.1.0))
      (both (at (codes "materials") (list_same kind i (material_rules before)
      (material_rules after) material_uses (material_same kind i c) r.materials.items
      free.1.1.1.1.0))
      (both (at (codes "meshes") (list_same kind i (mesh_rules before) (mesh_rules after)
      mesh_uses (mesh_same kind i c) r.meshes.items free.1.1.1.1.1.0))
      (both (at (codes "nodes") (list_same kind i (node_rules before) (node_rules after)
      node_uses (node_same kind i c) r.nodes.items free.1.1.1.1.1.1))
      refl))))))))

  later_same : (r : Root) → Free kind i (later_members_uses r)
      → later_members_rules before r ≡ later_members_rules after r
  later_same r free =
      both (at (codes "scene") (optional_index kind i list.Scene c.scenes r.scene free.0))
      (both (at (codes "scenes") (list_same kind i (scene_rules before) (scene_rules after)
      scene_uses (scene_same kind i c) r.scenes.items free.1.0))
      (both (at (codes "skins") (list_same kind i (skin_rules before) (skin_rules after)
      skin_uses (skin_same kind i c) r.skins.items free.1.1.0))
      (both (at (codes "textures") (list_same kind i (texture_rules before) (texture_rules after)
      texture_uses (texture_same kind i c) r.textures.items free.1.1.1))
      refl)))

pub root_same : (kind : Kind) (i : ℕ) (c : Counts) (r : Root) → references_of r kind i ≡ []
    → root_rules (with_length kind i c) r ≡ root_rules (with_length kind (i + 1) c) r
unfolding references_of
root_same kind i c r none =
    let free : Free kind i (root_uses r) =
    free_where_none kind i [] (root_uses r) (nil_of (λ h. h.path) (filter (names kind i) (held r))
    none) in
    both (first_same kind i c r free.0) (later_same kind i c r free.1)
