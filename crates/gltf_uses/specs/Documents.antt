-- The indices in the whole document (glTF 2.0, section 5.17), in the order of its members.
use Rattle.std.specs.Prelude.{codes}
use Rattle.gltf_json.specs.declared.root.Root.{Root}
use Rattle.gltf_uses.specs.declared.kind.Kind.TheVariants as list
use Rattle.gltf_uses.specs.Animations.{animation_uses}
use Rattle.gltf_uses.specs.Geometry.{accessor_uses, view_uses, mesh_uses}
use Rattle.gltf_uses.specs.Materials.{material_uses}
use Rattle.gltf_uses.specs.Scenes.{image_uses, texture_uses, node_uses, scene_uses, skin_uses}
use Rattle.gltf_uses.specs.Uses.{Uses, Use, ◌&◌, member, optional_uses, list_uses}

abbrev pub first_members_uses : Root → Uses
first_members_uses r =
    member (codes "accessors") (list_uses accessor_uses r.accessors.items)
    & member (codes "animations") (list_uses animation_uses r.animations.items)
    & member (codes "bufferViews") (list_uses view_uses r.buffer_views.items)
    & member (codes "images") (list_uses image_uses r.images.items)
    & member (codes "materials") (list_uses material_uses r.materials.items)
    & member (codes "meshes") (list_uses mesh_uses r.meshes.items)
    & member (codes "nodes") (list_uses node_uses r.nodes.items)

abbrev pub later_members_uses : Root → Uses
later_members_uses r =
    member (codes "scene") (optional_uses (Use list.Scene) r.scene)
    & member (codes "scenes") (list_uses scene_uses r.scenes.items)
    & member (codes "skins") (list_uses skin_uses r.skins.items)
    & member (codes "textures") (list_uses texture_uses r.textures.items)

-- the members in their order, in two parts
abbrev pub root_uses : Root → Uses
root_uses r = first_members_uses r & later_members_uses r
