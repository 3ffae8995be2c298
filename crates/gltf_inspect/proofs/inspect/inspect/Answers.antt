use Rattle.std.proofs.Common.{[], ap, ◌∙◌, codes}
use Rattle.gltf_findings.specs.Checks.{told_after, member}
use Rattle.gltf_inspect.specs.Documents.{root_checks, document_checks}
use Rattle.gltf_inspect_records.specs.Records.{record_checks}
use Rattle.gltf_inspect.specs.Refusals.{root_refusals}
use Rattle.gltf_inspect.specs.Unused.{root_unused_checks}
use Rattle.gltf_inspect.specs.Versions.{asset_checks}
use Rattle.gltf_inspect_extensions.specs.Documents.{undeclared_checks}
use Rattle.gltf_inspect_meshes.specs.Meshes.{meshes_checks}
use Rattle.gltf_inspect_nodes.specs.Graphs.{graph_checks}
use Rattle.gltf_inspect_nodes.specs.Roots.{roots_checks}
use Rattle.gltf_inspect_nodes.specs.ViewTargets.{view_targets_checks}
use Rattle.gltf_inspect_scenes.specs.Scenes.{scenes_checks}
use Rattle.gltf_inspect_trees.specs.Skeletons.{skeletons_checks}
use Rattle.gltf_inspect.proofs.Turns.{in_turn}
use Rattle.gltf_inspect.proofs.inspect.inspect.Goals as goal

pub returns : goal.returns
returns c =
    let r = c.args.root.now in
    c.new.ensures
    ∙ in_turn [] (root_refusals r) (record_checks r) (document_checks r) (root_unused_checks r)
    (meshes_checks r) (scenes_checks r) (graph_checks r) (roots_checks r) (skeletons_checks r)
    (view_targets_checks r) (undeclared_checks r) (member (codes "asset") (asset_checks r.asset))
    _ _ _ _ _ _ _ _ _ _ _ _ _
    c.in_ok-inspect_rules.ensures c.in_ok-inspect_records.ensures
    c.in_ok-inspect_document.ensures c.in_ok-tell_unused.ensures c.in_ok-inspect_meshes.ensures
    c.in_ok-inspect_scenes.ensures c.in_ok-inspect_graph_in.ensures c.in_ok-inspect_roots_in.ensures
    c.in_ok-inspect_skeletons_in.ensures c.in_ok-inspect_views.ensures
    c.in_ok-inspect_extensions.ensures c.in_ok-tell_asset.ensures
    ∙ ap (λ told. told_after told [] (root_checks r)) c.new-findings.ensures
    ∙ c.a_walk_adds_what_is_found.ensures [] [] (root_checks r)
