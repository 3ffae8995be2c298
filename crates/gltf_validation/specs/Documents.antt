-- The rules of the whole document, and which of them it breaks.
use Rattle.std.specs.Prelude.{ℕ, List, [], ◌∷◌, length, codes}
use Rattle.std.specs.String.{string_bytes}
use Rattle.std.specs.declared.string.String.{String}
use Rattle.std.specs.declared.alloc.Global.{Global}
use Rattle.gltf_json_record.specs.Member.{is_one_of}
use Rattle.gltf_json_record.specs.Place.{Place}
use Rattle.gltf_json.specs.declared.extensions.root.KhrLightsPunctual.{KhrLightsPunctual}
use Rattle.gltf_json.specs.declared.extensions.root.Root as extended
use Rattle.gltf_json.specs.declared.root.Root.{Root}
use Rattle.gltf_validation.specs.declared.counts.Counts.{Counts}
use Rattle.gltf_validation.specs.declared.error.Error.{Error}
use Rattle.gltf_validation.specs.declared.error.Error.TheVariants.{Unsupported}
use Rattle.gltf_validation.specs.Rules.{Rules, Condition, ◌&◌, Check, checks_at, broken}
use Rattle.gltf_validation.specs.Members.{member, index_rules, optional_rules, list_rules}
use Rattle.gltf_validation.specs.Accessors.{accessor_rules}
use Rattle.gltf_validation.specs.Animations.{animation_rules}
use Rattle.gltf_validation.specs.Buffers.{buffer_rules, view_rules}
use Rattle.gltf_validation.specs.Cameras.{camera_rules}
use Rattle.gltf_validation.specs.Images.{image_rules}
use Rattle.gltf_validation.specs.Lights.{light_rules, lights_of}
use Rattle.gltf_validation.specs.Materials.{material_rules}
use Rattle.gltf_validation.specs.Meshes.{mesh_rules}
use Rattle.gltf_validation.specs.Scenes.{node_rules, scene_rules}
use Rattle.gltf_validation.specs.Skins.{skin_rules}
use Rattle.gltf_validation.specs.Textures.{sampler_rules, texture_rules}

-- the lengths of the lists that indices point into
abbrev pub counts_of : Root → Counts
counts_of r = record {
  accessors = length r.accessors.items;
  animation_samplers = 0;
  buffers = length r.buffers.items;
  cameras = length r.cameras.items;
  images = length r.images.items;
  lights = length (lights_of r.extensions);
  materials = length r.materials.items;
  meshes = length r.meshes.items;
  nodes = length r.nodes.items;
  samplers = length r.samplers.items;
  scenes = length r.scenes.items;
  skins = length r.skins.items;
  textures = length r.textures.items;
  views = length r.buffer_views.items;
}

-- the extensions that are supported
abbrev pub supported_extensions : List (List ℕ)
supported_extensions =
    codes "KHR_lights_punctual"
    ∷ codes "KHR_materials_variants"
    ∷ codes "KHR_texture_transform"
    ∷ codes "KHR_materials_pbrSpecularGlossiness"
    ∷ codes "KHR_materials_unlit"
    ∷ codes "KHR_materials_transmission"
    ∷ codes "KHR_materials_ior"
    ∷ codes "KHR_materials_emissive_strength"
    ∷ codes "KHR_materials_volume"
    ∷ codes "KHR_materials_specular"
    ∷ []

-- an extension that a reader has to know is supported
abbrev pub supported_rules : String Global → Rules
supported_rules name = Condition (is_one_of supported_extensions (string_bytes name)) Unsupported

abbrev pub required_rules : List (String Global) → Rules
required_rules names = list_rules supported_rules names

abbrev pub root_lights_rules : Counts → KhrLightsPunctual → Rules
root_lights_rules c r =
    member (codes "lights") (list_rules (light_rules c) r.lights.items)

abbrev pub root_extensions_rules : Counts → extended.Root → Rules
root_extensions_rules c r =
    member (codes "KHR_lights_punctual")
    (optional_rules (root_lights_rules c) r.khr_lights_punctual)

-- the members in their order, in two parts
abbrev pub first_members_rules : Counts → Root → Rules
first_members_rules c r =
    member (codes "accessors") (list_rules (accessor_rules c) r.accessors.items)
    & member (codes "animations") (list_rules (animation_rules c) r.animations.items)
    & member (codes "buffers") (list_rules (buffer_rules c) r.buffers.items)
    & member (codes "bufferViews") (list_rules (view_rules c) r.buffer_views.items)
    & member (codes "cameras") (list_rules (camera_rules c) r.cameras.items)
    & member (codes "images") (list_rules (image_rules c) r.images.items)
    & member (codes "materials") (list_rules (material_rules c) r.materials.items)
    & member (codes "meshes") (list_rules (mesh_rules c) r.meshes.items)
    & member (codes "nodes") (list_rules (node_rules c) r.nodes.items)
    & member (codes "samplers") (list_rules (sampler_rules c) r.samplers.items)

abbrev pub later_members_rules : Counts → Root → Rules
later_members_rules c r =
    member (codes "scene") (optional_rules (index_rules c.scenes) r.scene)
    & member (codes "scenes") (list_rules (scene_rules c) r.scenes.items)
    & member (codes "skins") (list_rules (skin_rules c) r.skins.items)
    & member (codes "textures") (list_rules (texture_rules c) r.textures.items)
    & member (codes "extensionsRequired") (required_rules r.extensions_required.items)
    & member (codes "extensions") (optional_rules (root_extensions_rules c) r.extensions)

abbrev pub root_rules : Counts → Root → Rules
root_rules c r = first_members_rules c r & later_members_rules c r

-- the list of all checks of a document, in order
abbrev pub Checks : Root → List Check
Checks r = checks_at [] (root_rules (counts_of r) r)

-- those whose condition is false, as path and error
unfoldable pub Faults : Root → List (List Place × Error)
Faults r = broken (Checks r)
