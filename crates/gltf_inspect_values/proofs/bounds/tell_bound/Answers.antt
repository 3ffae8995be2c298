use Rattle.std.proofs.Common.{◌≡◌, ap, subst, ◌∙◌}
use Rattle.std.specs.Prelude.{OnOk}
use Rattle.serde_json.specs.View.{view}
use Rattle.gltf_validation.specs.Locations.{places_of}
use Rattle.gltf_findings.specs.Checks.{told_after}
use Rattle.gltf_inspect_values.specs.Bounds.{each_checks}
use Rattle.gltf_inspect_values.specs.Extents.{extents_checks}
use Rattle.gltf_inspect_values.proofs.Each.{each_of_map}
use Rattle.gltf_inspect_values.proofs.bounds.tell_bound.Goals as goal

pub returns : goal.returns
returns c =
    let checks = extents_checks c.args.bound c.args.kind c.args.extents.now in
    subst (λ all. OnOk c.tell_columns.result (c.tell_columns.new.findings
    ≡ told_after c.args.findings.now (places_of c.args.location.now) all))
    (each_of_map view checks 0 c.elements-values.result.now
    ∙ ap (each_checks checks 0) c.elements-values.ensures)
    c.tell_columns.ensures
