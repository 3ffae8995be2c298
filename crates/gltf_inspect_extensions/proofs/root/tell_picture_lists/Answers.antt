use Rattle.std.proofs.Common.{ap}
use Rattle.std.specs.Prelude.{codes}
use Rattle.gltf_validation.specs.Locations.{places_of}
use Rattle.gltf_findings.specs.Checks.{member, list_checks}
use Rattle.gltf_inspect_meshes.specs.Names.{has_name}
use Rattle.gltf_inspect_extensions.specs.Records.{image_checks, sampler_checks, texture_checks}
use Rattle.gltf_inspect_extensions.proofs.Chains.{all_three}
use Rattle.gltf_inspect_extensions.proofs.root.tell_picture_lists.Goals as goal

pub returns : goal.returns
returns c =
    all_three c.tell_list-3.result c.args.findings.now c.tell_list.new.findings
    c.tell_list-2.new.findings c.tell_list-3.new.findings (places_of c.args.location.now)
    (member (codes "images") (list_checks (image_checks (has_name c.args.used.now))
    c.as_slice-images.result.now))
    (member (codes "samplers") (list_checks (sampler_checks (has_name c.args.used.now))
    c.as_slice-samplers.result.now))
    (member (codes "textures") (list_checks (texture_checks (has_name c.args.used.now))
    c.as_slice-textures.result.now))
    (member (codes "images") (list_checks (image_checks (has_name c.args.used.now))
    c.args.root.now.images.items))
    (member (codes "samplers") (list_checks (sampler_checks (has_name c.args.used.now))
    c.args.root.now.samplers.items))
    (member (codes "textures") (list_checks (texture_checks (has_name c.args.used.now))
    c.args.root.now.textures.items))
    c.in_ok-tell_list.ensures c.in_ok-tell_list-2.ensures c.tell_list-3.ensures
    (ap (λ xs. member (codes "images") (list_checks (image_checks (has_name c.args.used.now)) xs))
    c.as_slice-images.ensures.value)
    (ap (λ xs. member (codes "samplers")
    (list_checks (sampler_checks (has_name c.args.used.now)) xs))
    c.as_slice-samplers.ensures.value)
    (ap (λ xs. member (codes "textures")
    (list_checks (texture_checks (has_name c.args.used.now)) xs))
    c.as_slice-textures.ensures.value)
