use Rattle.std.proofs.Common.{[]}
use Rattle.std.specs.Prelude.{codes}
use Rattle.gltf_json_record.specs.Place.{numbered}
use Rattle.gltf_validation.specs.Documents.{counts_of, root_rules}
use Rattle.gltf_findings.specs.Checks.{◌&◌, findings_of, member}
use Rattle.gltf_inspect.specs.Documents.{document_checks}
use Rattle.gltf_inspect_records.specs.Records.{record_checks}
use Rattle.gltf_inspect.specs.Refusals.{root_refusals}
use Rattle.gltf_inspect.specs.Versions.{asset_checks}
use Rattle.gltf_inspect.specs.Unused.{root_unused_checks}
use Rattle.gltf_inspect_meshes.specs.Meshes.{meshes_checks}
use Rattle.gltf_inspect_extensions.specs.Documents.{undeclared_checks}
use Rattle.gltf_inspect_nodes.specs.Graphs.{graph_checks}
use Rattle.gltf_inspect_nodes.specs.Roots.{roots_checks}
use Rattle.gltf_inspect_nodes.specs.ViewTargets.{view_targets_checks}
use Rattle.gltf_inspect_scenes.specs.Scenes.{scenes_checks}
use Rattle.gltf_inspect_trees.specs.Skeletons.{skeletons_checks}
use Rattle.gltf_inspect.proofs.Refused.{hold-without-errors, front-without-errors}
use Rattle.gltf_inspect.proofs.laws.the_rules_hold_where_no_error_is_found.Goals as goal

pub returns : goal.returns
returns c = λ r none. hold-without-errors [] (numbered 0) (root_rules (counts_of r) r)
    (front-without-errors (findings_of [] (root_refusals r))
    (findings_of [] (record_checks r & document_checks r & root_unused_checks r & meshes_checks r
    & scenes_checks r & graph_checks r & roots_checks r & skeletons_checks r & view_targets_checks r
    & undeclared_checks r & member (codes "asset") (asset_checks r.asset))) none)
