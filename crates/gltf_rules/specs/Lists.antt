-- What holds of each list of a document whose rules hold.
use Rattle.gltf_validation.specs.Accessors.{accessor_rules}
use Rattle.gltf_validation.specs.Animations.{animation_rules}
use Rattle.gltf_validation.specs.Buffers.{buffer_rules, view_rules}
use Rattle.gltf_validation.specs.Cameras.{camera_rules}
use Rattle.gltf_validation.specs.Images.{image_rules}
use Rattle.gltf_validation.specs.Materials.{material_rules}
use Rattle.gltf_validation.specs.Meshes.{mesh_rules}
use Rattle.gltf_validation.specs.Scenes.{node_rules, scene_rules}
use Rattle.gltf_validation.specs.Textures.{sampler_rules, texture_rules}
use Rattle.gltf_validation.specs.Skins.{skin_rules}
use Rattle.gltf_validation.specs.Documents.{counts_of, root_rules}
use Rattle.gltf_validation.specs.Members.{list_rules}
use Rattle.gltf_validation.specs.Rules.{Hold}
use Rattle.gltf_json.specs.declared.root.Root.{Root}

-- the rules of each record in a list hold
pub record HoldInLists (r : Root) : Type 0 where
  pub accessors : Hold (list_rules (accessor_rules (counts_of r)) r.accessors.items)
  pub animations : Hold (list_rules (animation_rules (counts_of r)) r.animations.items)
  pub buffers : Hold (list_rules (buffer_rules (counts_of r)) r.buffers.items)
  pub buffer_views : Hold (list_rules (view_rules (counts_of r)) r.buffer_views.items)
  pub cameras : Hold (list_rules (camera_rules (counts_of r)) r.cameras.items)
  pub images : Hold (list_rules (image_rules (counts_of r)) r.images.items)
  pub materials : Hold (list_rules (material_rules (counts_of r)) r.materials.items)
  pub meshes : Hold (list_rules (mesh_rules (counts_of r)) r.meshes.items)
  pub nodes : Hold (list_rules (node_rules (counts_of r)) r.nodes.items)
  pub samplers : Hold (list_rules (sampler_rules (counts_of r)) r.samplers.items)
  pub scenes : Hold (list_rules (scene_rules (counts_of r)) r.scenes.items)
  pub skins : Hold (list_rules (skin_rules (counts_of r)) r.skins.items)
  pub textures : Hold (list_rules (texture_rules (counts_of r)) r.textures.items)

-- the lists are members of the document, in this order
pub in_lists : (r : Root) → Hold (root_rules (counts_of r) r) → HoldInLists r
in_lists r h = record {
  accessors = h.0.0;
  animations = h.0.1.0;
  buffers = h.0.1.1.0;
  buffer_views = h.0.1.1.1.0;
  cameras = h.0.1.1.1.1.0;
  images = h.0.1.1.1.1.1.0;
  materials = h.0.1.1.1.1.1.1.0;
  meshes = h.0.1.1.1.1.1.1.1.0;
  nodes = h.0.1.1.1.1.1.1.1.1.0;
  samplers = h.0.1.1.1.1.1.1.1.1.1;
  scenes = h.1.1.0;
  skins = h.1.1.1.0;
  textures = h.1.1.1.1.0;
}
