use Rattle.std.proofs.Common.{◌≡◌, [], ◌∷◌, ◌++◌, ◌∙◌, ap, subst, OnOk, codes}
use Rattle.gltf_json_record.specs.Place.{named}
use Rattle.gltf_validation.specs.Locations.{places_of}
use Rattle.gltf_findings.specs.Checks.{told_after, optional_checks}
use Rattle.gltf_inspect_records.specs.Accessors.{accessor_checks, base_checks, sparse_checks}
use Rattle.gltf_inspect_records.proofs.accessor.AccessorInspect.inspect.Goals as goal

pub returns : goal.returns
returns c =
    let r = c.args.root.now in
    let a = c.args.self.now in
    let path = places_of c.args.location.now in
    let all : told_after c.tell_base.new.findings (path ++ named (codes "sparse") ∷ [])
    (optional_checks (sparse_checks r a) a.sparse)
    ≡ told_after c.args.findings.now path (accessor_checks r a) =
    ap (λ told. told_after told (path ++ named (codes "sparse") ∷ [])
    (optional_checks (sparse_checks r a) a.sparse))
    (c.in_ok-tell_base.ensures
    ∙ ap (λ told. told_after told path (optional_checks (base_checks r a) a.buffer_view))
    c.in_ok-tell_members.ensures) in
    subst (λ told. OnOk c.tell_sparse_of.result (c.tell_sparse_of.new.findings ≡ told)) all
    c.tell_sparse_of.ensures
