-- What is found in nodes and animations, in order.
use Rattle.std.specs.Prelude.{codes}
use Rattle.gltf_json.specs.declared.root.Root.{Root}
use Rattle.gltf_findings.specs.Checks.{Checks, ◌&◌, member, list_checks}
use Rattle.gltf_inspect_scenes.specs.Animations.{animation_checks}
use Rattle.gltf_inspect_scenes.specs.Nodes.{nodes_checks, skinned_meshes}

abbrev pub scenes_checks : Root → Checks
scenes_checks r =
    member (codes "nodes") (nodes_checks r (skinned_meshes r))
    & member (codes "animations") (list_checks (animation_checks r) r.animations.items)
