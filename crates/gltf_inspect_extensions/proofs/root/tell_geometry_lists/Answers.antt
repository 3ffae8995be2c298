use Rattle.std.proofs.Common.{ap}
use Rattle.std.specs.Prelude.{codes}
use Rattle.gltf_validation.specs.Locations.{places_of}
use Rattle.gltf_findings.specs.Checks.{member, list_checks}
use Rattle.gltf_inspect_meshes.specs.Names.{has_name}
use Rattle.gltf_inspect_extensions.specs.Records.{accessor_checks, buffer_checks, view_checks}
use Rattle.gltf_inspect_extensions.proofs.Chains.{all_three}
use Rattle.gltf_inspect_extensions.proofs.root.tell_geometry_lists.Goals as goal

pub returns : goal.returns
returns c =
    all_three c.tell_list-3.result c.args.findings.now c.tell_list.new.findings
    c.tell_list-2.new.findings c.tell_list-3.new.findings (places_of c.args.location.now)
    (member (codes "accessors") (list_checks (accessor_checks (has_name c.args.used.now))
    c.as_slice-accessors.result.now))
    (member (codes "buffers") (list_checks (buffer_checks (has_name c.args.used.now))
    c.as_slice-buffers.result.now))
    (member (codes "bufferViews") (list_checks (view_checks (has_name c.args.used.now))
    c.as_slice-buffer_views.result.now))
    (member (codes "accessors") (list_checks (accessor_checks (has_name c.args.used.now))
    c.args.root.now.accessors.items))
    (member (codes "buffers") (list_checks (buffer_checks (has_name c.args.used.now))
    c.args.root.now.buffers.items))
    (member (codes "bufferViews") (list_checks (view_checks (has_name c.args.used.now))
    c.args.root.now.buffer_views.items))
    c.in_ok-tell_list.ensures c.in_ok-tell_list-2.ensures c.tell_list-3.ensures
    (ap (λ xs. member (codes "accessors")
    (list_checks (accessor_checks (has_name c.args.used.now)) xs))
    c.as_slice-accessors.ensures.value)
    (ap (λ xs. member (codes "buffers") (list_checks (buffer_checks (has_name c.args.used.now)) xs))
    c.as_slice-buffers.ensures.value)
    (ap (λ xs. member (codes "bufferViews")
    (list_checks (view_checks (has_name c.args.used.now)) xs))
    c.as_slice-buffer_views.ensures.value)
