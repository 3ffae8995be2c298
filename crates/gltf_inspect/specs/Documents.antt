-- All checks of a document, in order.
use Rattle.std.specs.Prelude.{length, codes, []}
use Rattle.gltf_json.specs.declared.root.Root.{Root}
use Rattle.gltf_findings.specs.Checks.{Checks, ◌&◌, member}
use Rattle.gltf_inspect.specs.Extensions.{used_checks, required_checks, unique_checks}
use Rattle.gltf_inspect_extensions.specs.Documents.{undeclared_checks}
use Rattle.gltf_inspect_meshes.specs.Meshes.{meshes_checks}
use Rattle.gltf_inspect_nodes.specs.Graphs.{graph_checks}
use Rattle.gltf_inspect_nodes.specs.Roots.{roots_checks}
use Rattle.gltf_inspect_nodes.specs.ViewTargets.{view_targets_checks}
use Rattle.gltf_inspect_records.specs.Records.{record_checks}
use Rattle.gltf_inspect_scenes.specs.Scenes.{scenes_checks}
use Rattle.gltf_inspect_trees.specs.Skeletons.{skeletons_checks}
use Rattle.gltf_inspect.specs.Parents.{parents_checks}
use Rattle.gltf_inspect.specs.Refusals.{root_refusals}
use Rattle.gltf_inspect.specs.Unused.{root_unused_checks}
use Rattle.gltf_inspect.specs.Versions.{asset_checks}

-- of several records at once
abbrev pub document_checks : Root → Checks
document_checks r =
    member (codes "extensionsRequired")
    (required_checks r.extensions_used.items r.extensions_required.items
    & unique_checks [] 0 r.extensions_required.items)
    & member (codes "extensionsUsed")
    (used_checks r.extensions_used.items & unique_checks [] 0 r.extensions_used.items)
    & member (codes "nodes") (parents_checks (length r.nodes.items) [] 0 r.nodes.items)

abbrev pub root_checks : Root → Checks
root_checks r =
    root_refusals r & record_checks r & document_checks r & root_unused_checks r & meshes_checks r
    & scenes_checks r & graph_checks r & roots_checks r & skeletons_checks r & view_targets_checks r
    & undeclared_checks r & member (codes "asset") (asset_checks r.asset)
