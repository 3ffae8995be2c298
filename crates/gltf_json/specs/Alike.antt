-- What two documents have in common that show the same.
use Rattle.std.specs.Prelude.{◌≡◌, Vec, map, option_map}
use Rattle.std.specs.declared.alloc.Global.{Global}
use Rattle.std.proofs.Common.{ap, sym, ◌∙◌}
use Rattle.std.proofs.lemmas.Iterator.Adapters.{option_map_id}
use Rattle.gltf_json_record.specs.Kind.{Kind}
use Rattle.gltf_json_record.specs.Scalars.{text, any}
use Rattle.gltf_json_animation.specs.Animations.{animation}
use Rattle.gltf_json_geometry.specs.Accessors.{accessor}
use Rattle.gltf_json_geometry.specs.Buffers.{buffer, buffer_view}
use Rattle.gltf_json_geometry.specs.Meshes.{mesh}
use Rattle.gltf_json_material.specs.Materials.{material}
use Rattle.gltf_json_scene.specs.Assets.{asset}
use Rattle.gltf_json_scene.specs.Cameras.{camera}
use Rattle.gltf_json_scene.specs.Images.{image}
use Rattle.gltf_json_scene.specs.Scenes as scenes
use Rattle.gltf_json_scene.specs.Skins.{skin}
use Rattle.gltf_json_scene.specs.Textures.{sampler, texture}
use Rattle.gltf_json.specs.Documents.{root, root_extensions}
use Rattle.gltf_json.specs.declared.root.Root.{Root}

-- two lists show the same, element by element
abbrev pub AreAlike : {T : Type 0} → Kind T → Vec T Global → Vec T Global → Type 0
AreAlike K v w = map K.content v.items ≡ map K.content w.items

-- each member of two documents shows the same
pub record AreAlikeInEachMember (r s : Root) : Type 0 where
  pub asset : asset.content r.asset ≡ asset.content s.asset
  pub accessors : AreAlike accessor r.accessors s.accessors
  pub animations : AreAlike animation r.animations s.animations
  pub buffers : AreAlike buffer r.buffers s.buffers
  pub buffer_views : AreAlike buffer_view r.buffer_views s.buffer_views
  pub cameras : AreAlike camera r.cameras s.cameras
  pub images : AreAlike image r.images s.images
  pub materials : AreAlike material r.materials s.materials
  pub meshes : AreAlike mesh r.meshes s.meshes
  pub nodes : AreAlike scenes.node r.nodes s.nodes
  pub samplers : AreAlike sampler r.samplers s.samplers
  pub scene : r.scene ≡ s.scene
  pub scenes : AreAlike scenes.scene r.scenes s.scenes
  pub skins : AreAlike skin r.skins s.skins
  pub textures : AreAlike texture r.textures s.textures
  pub extensions_used : AreAlike text r.extensions_used s.extensions_used
  pub extensions_required : AreAlike text r.extensions_required s.extensions_required
  pub extensions : option_map root_extensions.content r.extensions
      ≡ option_map root_extensions.content s.extensions
  pub extras : option_map any.content r.extras ≡ option_map any.content s.extras

first : {A B : Type 0} {p q : A × B} → p ≡ q → p.0 ≡ q.0
first same = ap (λ p. p.0) same

rest : {A B : Type 0} {p q : A × B} → p ≡ q → p.1 ≡ q.1
rest same = ap (λ p. p.1) same

pub alike_in_each_member : (r s : Root) → root.content r ≡ root.content s → AreAlikeInEachMember r s
unfolding root
alike_in_each_member r s same =
    let after_asset = rest same in
    let after_accessors = rest after_asset in
    let after_animations = rest after_accessors in
    let after_buffers = rest after_animations in
    let after_buffer_views = rest after_buffers in
    let after_cameras = rest after_buffer_views in
    let after_images = rest after_cameras in
    let after_materials = rest after_images in
    let after_meshes = rest after_materials in
    let after_nodes = rest after_meshes in
    let after_samplers = rest after_nodes in
    let after_scene = rest after_samplers in
    let after_scenes = rest after_scene in
    let after_skins = rest after_scenes in
    let after_textures = rest after_skins in
    let after_extensions_used = rest after_textures in
    let after_extensions_required = rest after_extensions_used in
    record {
      asset = first same;
      accessors = first after_asset;
      animations = first after_accessors;
      buffers = first after_animations;
      buffer_views = first after_buffers;
      cameras = first after_buffer_views;
      images = first after_cameras;
      materials = first after_images;
      meshes = first after_materials;
      nodes = first after_meshes;
      samplers = first after_nodes;
      scene = sym (option_map_id r.scene) ∙ first after_samplers ∙ option_map_id s.scene;
      scenes = first after_scene;
      skins = first after_scenes;
      textures = first after_skins;
      extensions_used = first after_textures;
      extensions_required = first after_extensions_used;
      extensions = first after_extensions_required;
      extras = rest after_extensions_required;
    }
