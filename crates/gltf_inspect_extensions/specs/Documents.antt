-- The extensions that are used in a document: "All extensions used in a glTF asset MUST be listed
-- in the top-level extensionsUsed array object" (glTF 2.0, section 3.12).
use Rattle.std.specs.Prelude.{codes}
use Rattle.gltf_json.specs.declared.extensions.root.Root as extended
use Rattle.gltf_json.specs.declared.root.Root.{Root}
use Rattle.gltf_findings.specs.Checks.{Checks, ◌&◌, member, list_checks}
use Rattle.gltf_inspect_meshes.specs.Names.{is_among}
use Rattle.gltf_inspect_extensions.specs.Extended.{Names, entries_checks, known_checks}
use Rattle.gltf_inspect_extensions.specs.Extended.{extensions_checks}
use Rattle.gltf_inspect_extensions.specs.Materials.{material_checks}
use Rattle.gltf_inspect_extensions.specs.Records.{accessor_checks, animation_checks, asset_checks}
use Rattle.gltf_inspect_extensions.specs.Records.{buffer_checks, view_checks, camera_checks}
use Rattle.gltf_inspect_extensions.specs.Records.{image_checks, mesh_checks, node_checks}
use Rattle.gltf_inspect_extensions.specs.Records.{sampler_checks, scene_checks, skin_checks}
use Rattle.gltf_inspect_extensions.specs.Records.{texture_checks}

abbrev pub root_extensions_checks : Names → extended.Root → Checks
root_extensions_checks used e =
    known_checks used (codes "KHR_lights_punctual") e.khr_lights_punctual
    & known_checks used (codes "KHR_materials_variants") e.khr_materials_variants
    & entries_checks used e.others.entries

abbrev pub geometry_lists_checks : Names → Root → Checks
geometry_lists_checks used r =
    member (codes "accessors") (list_checks (accessor_checks used) r.accessors.items)
    & member (codes "buffers") (list_checks (buffer_checks used) r.buffers.items)
    & member (codes "bufferViews") (list_checks (view_checks used) r.buffer_views.items)

abbrev pub scene_lists_checks : Names → Root → Checks
scene_lists_checks used r =
    member (codes "nodes") (list_checks (node_checks used) r.nodes.items)
    & member (codes "scenes") (list_checks (scene_checks used) r.scenes.items)
    & member (codes "skins") (list_checks (skin_checks used) r.skins.items)

abbrev pub picture_lists_checks : Names → Root → Checks
picture_lists_checks used r =
    member (codes "images") (list_checks (image_checks used) r.images.items)
    & member (codes "samplers") (list_checks (sampler_checks used) r.samplers.items)
    & member (codes "textures") (list_checks (texture_checks used) r.textures.items)

abbrev pub other_lists_checks : Names → Root → Checks
other_lists_checks used r =
    member (codes "animations") (list_checks (animation_checks used) r.animations.items)
    & member (codes "cameras") (list_checks (camera_checks used) r.cameras.items)

abbrev pub shape_lists_checks : Names → Root → Checks
shape_lists_checks used r =
    member (codes "materials") (list_checks (material_checks used) r.materials.items)
    & member (codes "meshes") (list_checks (mesh_checks used) r.meshes.items)

abbrev pub first_lists_checks : Names → Root → Checks
first_lists_checks used r =
    geometry_lists_checks used r & scene_lists_checks used r & picture_lists_checks used r

abbrev pub later_lists_checks : Names → Root → Checks
later_lists_checks used r = other_lists_checks used r & shape_lists_checks used r

-- of a document that declares the extensions of this list
abbrev pub root_checks : Names → Root → Checks
root_checks used r =
    member (codes "asset") (asset_checks used r.asset)
    & extensions_checks (root_extensions_checks used) r.extensions
    & first_lists_checks used r
    & later_lists_checks used r

abbrev pub undeclared_checks : Root → Checks
undeclared_checks r = root_checks (is_among r.extensions_used.items) r
