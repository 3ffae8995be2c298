-- All checks of the records of a document, in order.
use Rattle.std.specs.Prelude.{codes}
use Rattle.gltf_json.specs.declared.root.Root.{Root}
use Rattle.gltf_findings.specs.Checks.{Checks, ◌&◌, member, list_checks}
use Rattle.gltf_inspect_records.specs.Accessors.{accessor_checks}
use Rattle.gltf_inspect_records.specs.Animations.{animation_checks}
use Rattle.gltf_inspect_records.specs.Cameras.{camera_checks}
use Rattle.gltf_inspect_records.specs.Materials.{material_checks}
use Rattle.gltf_inspect_records.specs.Meshes.{mesh_checks}
use Rattle.gltf_inspect_records.specs.Scenes.{node_checks, skin_checks}
use Rattle.gltf_inspect_records.specs.Views.{buffer_checks, view_checks, image_checks}

-- of each record by itself, and of what it names
abbrev pub record_checks : Root → Checks
record_checks r =
    member (codes "accessors") (list_checks (accessor_checks r) r.accessors.items)
    & member (codes "animations") (list_checks (animation_checks r) r.animations.items)
    & member (codes "buffers") (list_checks (λ b. buffer_checks b) r.buffers.items)
    & member (codes "bufferViews") (list_checks (view_checks r) r.buffer_views.items)
    & member (codes "cameras") (list_checks (λ c. camera_checks c) r.cameras.items)
    & member (codes "images") (list_checks (image_checks r) r.images.items)
    & member (codes "materials") (list_checks (λ m. material_checks m) r.materials.items)
    & member (codes "meshes") (list_checks (mesh_checks r) r.meshes.items)
    & member (codes "nodes") (list_checks (λ n. node_checks n) r.nodes.items)
    & member (codes "skins") (list_checks (skin_checks r) r.skins.items)
