use Rattle.std.proofs.Common.{◌≡◌, List, ℕ, ap, subst, ◌∙◌, OnOk}
use Rattle.std.proofs.Math.Path.{fun_ext}
use Rattle.gltf_json_record.specs.Place.{Place}
use Rattle.gltf_validation.specs.Locations.{places_of}
use Rattle.gltf_findings.specs.Checks.{told_after, ◌&◌}
use Rattle.gltf_uses.specs.declared.kind.Kind.{Kind}
use Rattle.gltf_uses.specs.References.{unused_of}
use Rattle.gltf_uses.specs.Usage.{unused_in}
use Rattle.gltf_inspect.specs.Unused.{first_unused_checks, later_unused_checks, root_unused_checks}
use Rattle.gltf_inspect.proofs.unused.tell_unused.Goals as goal

pub returns : goal.returns
returns c =
    let path : List Place = places_of c.args.location.now in
    let found : Kind → List ℕ = unused_in c.in_ok-usage.usage in
    let same : found ≡ unused_of c.args.root.now = fun_ext c.in_ok-usage.ensures.unused in
    let all : told_after c.tell_first.new.findings path (later_unused_checks found)
    ≡ told_after c.args.findings.now path (root_unused_checks c.args.root.now) =
    ap (λ told. told_after told path (later_unused_checks found)) c.in_ok-tell_first.ensures
    ∙ ap (λ (unused : Kind → List ℕ). told_after c.args.findings.now path
    (first_unused_checks unused & later_unused_checks unused)) same in
    subst (λ told. OnOk c.tell_later.result (c.tell_later.new.findings ≡ told)) all
    c.tell_later.ensures
