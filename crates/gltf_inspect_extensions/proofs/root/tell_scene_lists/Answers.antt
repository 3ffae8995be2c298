use Rattle.std.proofs.Common.{ap}
use Rattle.std.specs.Prelude.{codes}
use Rattle.gltf_validation.specs.Locations.{places_of}
use Rattle.gltf_findings.specs.Checks.{member, list_checks}
use Rattle.gltf_inspect_meshes.specs.Names.{has_name}
use Rattle.gltf_inspect_extensions.specs.Records.{node_checks, scene_checks, skin_checks}
use Rattle.gltf_inspect_extensions.proofs.Chains.{all_three}
use Rattle.gltf_inspect_extensions.proofs.root.tell_scene_lists.Goals as goal

pub returns : goal.returns
returns c =
    all_three c.tell_list-3.result c.args.findings.now c.tell_list.new.findings
    c.tell_list-2.new.findings c.tell_list-3.new.findings (places_of c.args.location.now)
    (member (codes "nodes") (list_checks (node_checks (has_name c.args.used.now))
    c.as_slice-nodes.result.now))
    (member (codes "scenes") (list_checks (scene_checks (has_name c.args.used.now))
    c.as_slice-scenes.result.now))
    (member (codes "skins") (list_checks (skin_checks (has_name c.args.used.now))
    c.as_slice-skins.result.now))
    (member (codes "nodes") (list_checks (node_checks (has_name c.args.used.now))
    c.args.root.now.nodes.items))
    (member (codes "scenes") (list_checks (scene_checks (has_name c.args.used.now))
    c.args.root.now.scenes.items))
    (member (codes "skins") (list_checks (skin_checks (has_name c.args.used.now))
    c.args.root.now.skins.items))
    c.in_ok-tell_list.ensures c.in_ok-tell_list-2.ensures c.tell_list-3.ensures
    (ap (λ xs. member (codes "nodes") (list_checks (node_checks (has_name c.args.used.now)) xs))
    c.as_slice-nodes.ensures.value)
    (ap (λ xs. member (codes "scenes") (list_checks (scene_checks (has_name c.args.used.now)) xs))
    c.as_slice-scenes.ensures.value)
    (ap (λ xs. member (codes "skins") (list_checks (skin_checks (has_name c.args.used.now)) xs))
    c.as_slice-skins.ensures.value)
