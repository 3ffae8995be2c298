-- The whole document, row by row (glTF 2.0, section 5.17).
use Rattle.std.specs.Prelude.{[], ◌∷◌, codes}
use Rattle.gltf_json_record.specs.Kind.{Kind}
use Rattle.gltf_json_record.specs.Lists.{list}
use Rattle.gltf_json_record.specs.Scalars.{text, index, any}
use Rattle.gltf_json_record.specs.Table.{required, optional, listed, others, ◌&◌, table}
use Rattle.gltf_json_animation.specs.Animations.{animation}
use Rattle.gltf_json_geometry.specs.Accessors.{accessor}
use Rattle.gltf_json_geometry.specs.Buffers.{buffer, buffer_view}
use Rattle.gltf_json_geometry.specs.Meshes.{mesh}
use Rattle.gltf_json_material.specs.Materials.{material}
use Rattle.gltf_json_scene.specs.Assets.{asset}
use Rattle.gltf_json_scene.specs.Cameras.{camera}
use Rattle.gltf_json_scene.specs.Images.{image}
use Rattle.gltf_json_scene.specs.Lights.{light}
use Rattle.gltf_json_scene.specs.Scenes.{node, scene}
use Rattle.gltf_json_scene.specs.Skins.{skin}
use Rattle.gltf_json_scene.specs.Textures.{sampler, texture}
use Rattle.gltf_json_scene.specs.Variants.{variant}
use Rattle.gltf_json.specs.declared.extensions.root.KhrLightsPunctual.{KhrLightsPunctual}
use Rattle.gltf_json.specs.declared.extensions.root.KhrMaterialsVariants.{KhrMaterialsVariants}
use Rattle.gltf_json.specs.declared.extensions.root.Root as extensions
use Rattle.gltf_json.specs.declared.root.Root.{Root}

-- KHR_lights_punctual at the root
unfoldable pub root_lights : Kind KhrLightsPunctual
root_lights = table
    (required (codes "lights") (λ r. r.lights) (list light))

-- KHR_materials_variants at the root
unfoldable pub root_variants : Kind KhrMaterialsVariants
root_variants = table
    (required (codes "variants") (λ r. r.variants) (list variant))

-- the member extensions of the root
unfoldable pub root_extensions : Kind extensions.Root
root_extensions = table
    (optional (codes "KHR_lights_punctual") (λ r. r.khr_lights_punctual) root_lights
    & optional (codes "KHR_materials_variants") (λ r. r.khr_materials_variants) root_variants
    & others (codes "KHR_lights_punctual" ∷ codes "KHR_materials_variants" ∷ []) (λ r. r.others))

unfoldable pub root : Kind Root
root = table
    (required (codes "asset") (λ r. r.asset) asset
    & listed (codes "accessors") (λ r. r.accessors) accessor
    & listed (codes "animations") (λ r. r.animations) animation
    & listed (codes "buffers") (λ r. r.buffers) buffer
    & listed (codes "bufferViews") (λ r. r.buffer_views) buffer_view
    & listed (codes "cameras") (λ r. r.cameras) camera
    & listed (codes "images") (λ r. r.images) image
    & listed (codes "materials") (λ r. r.materials) material
    & listed (codes "meshes") (λ r. r.meshes) mesh
    & listed (codes "nodes") (λ r. r.nodes) node
    & listed (codes "samplers") (λ r. r.samplers) sampler
    & optional (codes "scene") (λ r. r.scene) index
    & listed (codes "scenes") (λ r. r.scenes) scene
    & listed (codes "skins") (λ r. r.skins) skin
    & listed (codes "textures") (λ r. r.textures) texture
    & listed (codes "extensionsUsed") (λ r. r.extensions_used) text
    & listed (codes "extensionsRequired") (λ r. r.extensions_required) text
    & optional (codes "extensions") (λ r. r.extensions) root_extensions
    & optional (codes "extras") (λ r. r.extras) any)
