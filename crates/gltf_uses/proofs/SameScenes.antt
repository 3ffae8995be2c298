-- The rules of images, textures, nodes, scenes and skins, where none of their uses is of element i
-- of a list: they are the same whether the list ends before that element or after it.
use Rattle.std.proofs.Common.{◌≡◌, ℕ, ◌+◌, refl}
use Rattle.std.specs.Prelude.{codes}
use Rattle.gltf_json_scene.specs.declared.image.Image.{Image}
use Rattle.gltf_json_scene.specs.declared.texture.Texture.{Texture}
use Rattle.gltf_json_scene.specs.declared.extensions.scene.KhrLightsPunctual.{KhrLightsPunctual}
use Rattle.gltf_json_scene.specs.declared.extensions.scene.Node as extended
use Rattle.gltf_json_scene.specs.declared.scene.Node.{Node}
use Rattle.gltf_json_scene.specs.declared.scene.Scene.{Scene}
use Rattle.gltf_json_scene.specs.declared.skin.Skin.{Skin}
use Rattle.gltf_validation.specs.declared.counts.Counts.{Counts}
use Rattle.gltf_validation.specs.Images.{image_rules}
use Rattle.gltf_validation.specs.Textures.{texture_rules}
use Rattle.gltf_validation.specs.Lights.{node_light_rules}
use Rattle.gltf_validation.specs.Scenes.{node_extensions_rules, node_rules, scene_rules}
use Rattle.gltf_validation.specs.Skins.{skin_rules}
use Rattle.gltf_uses.specs.declared.kind.Kind.{Kind}
use Rattle.gltf_uses.specs.declared.kind.Kind.TheVariants as list
use Rattle.gltf_uses.specs.Scenes.{image_uses, texture_uses, node_light_uses, node_extensions_uses}
use Rattle.gltf_uses.specs.Scenes.{node_uses, scene_uses, skin_uses}
use Rattle.gltf_uses.specs.Lengths.{with_length}
use Rattle.gltf_uses.proofs.Free.{Free, at, both, one_index, optional_index, list_index}
use Rattle.gltf_uses.proofs.Free.{optional_same}

module _ (kind : Kind) (i : ℕ) (c : Counts) where
  abbrev before : Counts
  before = with_length kind i c

  abbrev after : Counts
  after = with_length kind (i + 1) c

  pub image_same : (r : Image) → Free kind i (image_uses r)
      → image_rules before r ≡ image_rules after r
  image_same r free =
      both
      (at (codes "bufferView") (optional_index kind i list.View c.views r.buffer_view
      free))
      (both refl
      refl)

  pub texture_same : (r : Texture) → Free kind i (texture_uses r)
      → texture_rules before r ≡ texture_rules after r
  texture_same r free =
      both
      (at (codes "sampler") (optional_index kind i list.Sampler c.samplers r.sampler
      free.0))
      (at (codes "source") (one_index kind i list.Image c.images r.source free.1))

  pub node_light_same : (r : KhrLightsPunctual) → Free kind i (node_light_uses r)
      → node_light_rules before r ≡ node_light_rules after r
  node_light_same r free =
      at (codes "light") (one_index kind i list.Light c.lights r.light free)

  pub node_extensions_same : (r : extended.Node) → Free kind i (node_extensions_uses r)
      → node_extensions_rules before r ≡ node_extensions_rules after r
  node_extensions_same r free =
      at (codes "KHR_lights_punctual") (optional_same kind i (node_light_rules before)
      (node_light_rules after) node_light_uses node_light_same r.khr_lights_punctual
      free)

  pub node_same : (r : Node) → Free kind i (node_uses r)
      → node_rules before r ≡ node_rules after r
  node_same r free =
      both
      (at (codes "camera") (optional_index kind i list.Camera c.cameras r.camera free.0))
      (both
      (at (codes "children") (list_index kind i list.Node c.nodes r.children.items
      free.1.0))
      (both
      (at (codes "mesh") (optional_index kind i list.Mesh c.meshes r.mesh free.1.1.0))
      (both
      (at (codes "skin") (optional_index kind i list.Skin c.skins r.skin free.1.1.1.0))
      (at (codes "extensions") (optional_same kind i (node_extensions_rules before)
      (node_extensions_rules after) node_extensions_uses node_extensions_same
      r.extensions free.1.1.1.1)))))

  pub scene_same : (r : Scene) → Free kind i (scene_uses r)
      → scene_rules before r ≡ scene_rules after r
  scene_same r free =
      at (codes "nodes") (list_index kind i list.Node c.nodes r.nodes.items free)

  pub skin_same : (r : Skin) → Free kind i (skin_uses r)
      → skin_rules before r ≡ skin_rules after r
  skin_same r free =
      both
      (at (codes "inverseBindMatrices") (optional_index kind i list.Accessor c.accessors
      r.inverse_bind_matrices free.0))
      (both
      (at (codes "joints") (list_index kind i list.Node c.nodes r.joints.items free.1.0))
      (at (codes "skeleton") (optional_index kind i list.Node c.nodes r.skeleton free.1.1)))
