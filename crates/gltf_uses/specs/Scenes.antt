-- The indices in images, textures (glTF 2.0, section 3.8), nodes, scenes (section 3.5) and skins
-- (section 3.7.3), in the order of their members.
use Rattle.std.specs.Prelude.{codes}
use Rattle.gltf_json_scene.specs.declared.extensions.scene.KhrLightsPunctual.{KhrLightsPunctual}
use Rattle.gltf_json_scene.specs.declared.extensions.scene.Node as extended
use Rattle.gltf_json_scene.specs.declared.image.Image.{Image}
use Rattle.gltf_json_scene.specs.declared.scene.Node.{Node}
use Rattle.gltf_json_scene.specs.declared.scene.Scene.{Scene}
use Rattle.gltf_json_scene.specs.declared.skin.Skin.{Skin}
use Rattle.gltf_json_scene.specs.declared.texture.Texture.{Texture}
use Rattle.gltf_uses.specs.declared.kind.Kind.TheVariants as list
use Rattle.gltf_uses.specs.Uses.{Uses, Use, ◌&◌, member, optional_uses, list_uses}

abbrev pub image_uses : Image → Uses
image_uses r = member (codes "bufferView") (optional_uses (Use list.View) r.buffer_view)

abbrev pub texture_uses : Texture → Uses
texture_uses r =
    member (codes "sampler") (optional_uses (Use list.Sampler) r.sampler)
    & member (codes "source") (Use list.Image r.source)

-- the light at a node (KHR_lights_punctual)
abbrev pub node_light_uses : KhrLightsPunctual → Uses
node_light_uses r = member (codes "light") (Use list.Light r.light)

abbrev pub node_extensions_uses : extended.Node → Uses
node_extensions_uses r =
    member (codes "KHR_lights_punctual") (optional_uses node_light_uses r.khr_lights_punctual)

abbrev pub node_uses : Node → Uses
node_uses r =
    member (codes "camera") (optional_uses (Use list.Camera) r.camera)
    & member (codes "children") (list_uses (Use list.Node) r.children.items)
    & member (codes "mesh") (optional_uses (Use list.Mesh) r.mesh)
    & member (codes "skin") (optional_uses (Use list.Skin) r.skin)
    & member (codes "extensions") (optional_uses node_extensions_uses r.extensions)

abbrev pub scene_uses : Scene → Uses
scene_uses r = member (codes "nodes") (list_uses (Use list.Node) r.nodes.items)

abbrev pub skin_uses : Skin → Uses
skin_uses r =
    member (codes "inverseBindMatrices")
    (optional_uses (Use list.Accessor) r.inverse_bind_matrices)
    & member (codes "joints") (list_uses (Use list.Node) r.joints.items)
    & member (codes "skeleton") (optional_uses (Use list.Node) r.skeleton)
