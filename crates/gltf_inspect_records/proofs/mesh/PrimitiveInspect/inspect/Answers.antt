use Rattle.std.proofs.Common.{◌≡◌, [], ◌∷◌, ◌++◌, ◌∙◌, ap, subst, OnOk, codes}
use Rattle.gltf_json_record.specs.Place.{named}
use Rattle.gltf_validation.specs.Locations.{places_of}
use Rattle.gltf_findings.specs.Checks.{told_after, optional_checks}
use Rattle.gltf_inspect_records.specs.Meshes.{primitive_checks, indices_index_checks}
use Rattle.gltf_inspect_records.specs.Variants.{extensions_checks}
use Rattle.gltf_inspect_records.proofs.mesh.PrimitiveInspect.inspect.Goals as goal

pub returns : goal.returns
returns c =
    let r = c.args.root.now in
    let p = c.args.self.now in
    let path = places_of c.args.location.now in
    let all : told_after c.tell_indices_of.new.findings (path ++ named (codes "extensions") ∷ [])
    (optional_checks (extensions_checks r) p.extensions)
    ≡ told_after c.args.findings.now path (primitive_checks r p) =
    ap (λ told. told_after told (path ++ named (codes "extensions") ∷ [])
    (optional_checks (extensions_checks r) p.extensions))
    (c.in_ok-tell_indices_of.ensures
    ∙ ap (λ told. told_after told (path ++ named (codes "indices") ∷ [])
    (optional_checks (indices_index_checks r) p.indices))
    c.in_ok-tell_attributes_of.ensures) in
    subst (λ told. OnOk c.tell_extensions_of.result (c.tell_extensions_of.new.findings ≡ told)) all
    c.tell_extensions_of.ensures
