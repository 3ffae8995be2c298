use Rattle.std.proofs.Common.{◌≡◌, ap, sym, subst, ◌∙◌, if◌then◌else◌, Bool}
use Rattle.std.specs.Prelude.{OnOk}
use Rattle.gltf_validation.specs.Locations.{places_of}
use Rattle.gltf_findings.specs.Checks.{Checks, Nothing, told_after}
use Rattle.gltf_inspect_values.specs.Extents.{listed}
use Rattle.gltf_inspect_values.specs.Summaries.{both_checks}
use Rattle.gltf_inspect_values.proofs.bounds.tell_bounds.Goals as goal

pub returns-then-has_bounds : goal.returns-then-has_bounds
returns-then-has_bounds c =
    let a = c.args.accessor.now in
    let all = both_checks a (listed c.args.found.now.columns) in
    subst (λ (checks : Checks). OnOk c.tell_stated.result (c.tell_stated.new.findings
    ≡ told_after c.args.findings.now (places_of c.args.location.now) checks))
    (ap (both_checks a) c.listed-extents.ensures
    ∙ sym (ap (λ (b : Bool). if b then all else Nothing)
    (sym c.has_bounds.ensures ∙ c.if-has_bounds.true)))
    c.tell_stated.ensures
