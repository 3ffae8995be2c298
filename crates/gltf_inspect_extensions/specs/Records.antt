-- The extensions that are used in records: "All extensions used in a glTF asset MUST be listed in
-- the top-level extensionsUsed array object" (glTF 2.0, section 3.12).
use Rattle.std.specs.Prelude.{codes}
use Rattle.gltf_json_geometry.specs.declared.accessor.Accessor.{Accessor}
use Rattle.gltf_json_animation.specs.declared.animation.Animation.{Animation}
use Rattle.gltf_json_scene.specs.declared.asset.Asset.{Asset}
use Rattle.gltf_json_geometry.specs.declared.buffer.Buffer.{Buffer}
use Rattle.gltf_json_geometry.specs.declared.buffer.View.{View}
use Rattle.gltf_json_scene.specs.declared.camera.Orthographic.{Orthographic}
use Rattle.gltf_json_scene.specs.declared.camera.Perspective.{Perspective}
use Rattle.gltf_json_scene.specs.declared.image.Image.{Image}
use Rattle.gltf_json_scene.specs.declared.scene.Scene.{Scene}
use Rattle.gltf_json_scene.specs.declared.skin.Skin.{Skin}
use Rattle.gltf_json_scene.specs.declared.texture.Sampler.{Sampler}
use Rattle.gltf_json_scene.specs.declared.texture.Texture.{Texture}
use Rattle.gltf_json_scene.specs.declared.camera.Camera.{Camera}
use Rattle.gltf_json_scene.specs.declared.scene.Node.{Node}
use Rattle.gltf_json_geometry.specs.declared.mesh.Mesh.{Mesh}
use Rattle.gltf_json_geometry.specs.declared.mesh.Primitive.{Primitive}
use Rattle.gltf_json_geometry.specs.declared.extensions.mesh.Primitive as shape
use Rattle.gltf_json_scene.specs.declared.extensions.scene.Node as place
use Rattle.gltf_findings.specs.Checks.{Checks, ◌&◌, member, optional_checks, list_checks}
use Rattle.gltf_inspect_extensions.specs.Extended.{Names, entries_checks, known_checks}
use Rattle.gltf_inspect_extensions.specs.Extended.{others_checks, extensions_checks}

abbrev pub accessor_checks : Names → Accessor → Checks
accessor_checks used r = extensions_checks (others_checks used) r.extensions

abbrev pub animation_checks : Names → Animation → Checks
animation_checks used r = extensions_checks (others_checks used) r.extensions

abbrev pub asset_checks : Names → Asset → Checks
asset_checks used r = extensions_checks (others_checks used) r.extensions

abbrev pub buffer_checks : Names → Buffer → Checks
buffer_checks used r = extensions_checks (others_checks used) r.extensions

abbrev pub view_checks : Names → View → Checks
view_checks used r = extensions_checks (others_checks used) r.extensions

abbrev pub orthographic_checks : Names → Orthographic → Checks
orthographic_checks used r = extensions_checks (others_checks used) r.extensions

abbrev pub perspective_checks : Names → Perspective → Checks
perspective_checks used r = extensions_checks (others_checks used) r.extensions

abbrev pub image_checks : Names → Image → Checks
image_checks used r = extensions_checks (others_checks used) r.extensions

abbrev pub scene_checks : Names → Scene → Checks
scene_checks used r = extensions_checks (others_checks used) r.extensions

abbrev pub skin_checks : Names → Skin → Checks
skin_checks used r = extensions_checks (others_checks used) r.extensions

abbrev pub sampler_checks : Names → Sampler → Checks
sampler_checks used r = extensions_checks (others_checks used) r.extensions

abbrev pub texture_checks : Names → Texture → Checks
texture_checks used r = extensions_checks (others_checks used) r.extensions

abbrev pub camera_checks : Names → Camera → Checks
camera_checks used r =
    extensions_checks (others_checks used) r.extensions
    & member (codes "orthographic") (optional_checks (orthographic_checks used) r.orthographic)
    & member (codes "perspective") (optional_checks (perspective_checks used) r.perspective)

abbrev pub node_extensions_checks : Names → place.Node → Checks
node_extensions_checks used e =
    known_checks used (codes "KHR_lights_punctual") e.khr_lights_punctual
    & entries_checks used e.others.entries

abbrev pub node_checks : Names → Node → Checks
node_checks used r = extensions_checks (node_extensions_checks used) r.extensions

abbrev pub primitive_extensions_checks : Names → shape.Primitive → Checks
primitive_extensions_checks used e =
    known_checks used (codes "KHR_materials_variants") e.khr_materials_variants
    & entries_checks used e.others.entries

abbrev pub primitive_checks : Names → Primitive → Checks
primitive_checks used r = extensions_checks (primitive_extensions_checks used) r.extensions

abbrev pub mesh_checks : Names → Mesh → Checks
mesh_checks used r =
    extensions_checks (others_checks used) r.extensions
    & member (codes "primitives") (list_checks (primitive_checks used) r.primitives.items)
