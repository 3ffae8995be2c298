use Rattle.std.proofs.Common.{ap}
use Rattle.std.specs.Prelude.{codes}
use Rattle.gltf_validation.specs.Locations.{places_of}
use Rattle.gltf_findings.specs.Checks.{member, list_checks}
use Rattle.gltf_inspect_meshes.specs.Names.{has_name}
use Rattle.gltf_inspect_extensions.specs.Materials.{material_checks}
use Rattle.gltf_inspect_extensions.specs.Records.{mesh_checks}
use Rattle.gltf_inspect_extensions.proofs.Chains.{both}
use Rattle.gltf_inspect_extensions.proofs.root.tell_shape_lists.Goals as goal

pub returns : goal.returns
returns c =
    both c.tell_list-2.result c.args.findings.now c.tell_list.new.findings
    c.tell_list-2.new.findings (places_of c.args.location.now)
    (member (codes "materials") (list_checks (material_checks (has_name c.args.used.now))
    c.as_slice-materials.result.now))
    (member (codes "meshes") (list_checks (mesh_checks (has_name c.args.used.now))
    c.as_slice-meshes.result.now))
    (member (codes "materials") (list_checks (material_checks (has_name c.args.used.now))
    c.args.root.now.materials.items))
    (member (codes "meshes") (list_checks (mesh_checks (has_name c.args.used.now))
    c.args.root.now.meshes.items))
    c.in_ok-tell_list.ensures c.tell_list-2.ensures
    (ap (λ xs. member (codes "materials")
    (list_checks (material_checks (has_name c.args.used.now)) xs))
    c.as_slice-materials.ensures.value)
    (ap (λ xs. member (codes "meshes") (list_checks (mesh_checks (has_name c.args.used.now)) xs))
    c.as_slice-meshes.ensures.value)
