use Rattle.std.proofs.Common.{◌≡◌, subst, rules}
use Rattle.std.specs.Prelude.{slice_get, OnOk}
use Rattle.gltf_shared.specs.Shown.{lent_bytes}
use Rattle.gltf_validation.specs.Locations.{places_of}
use Rattle.gltf_findings.specs.Checks.{told_after}
use Rattle.gltf_inspect_items.proofs.Decides.{decided}
use Rattle.gltf_inspect_items.proofs.indices.tell_indices.Goals as goal

pub returns-clause-told : goal.returns-clause-told
returns-clause-told c =
    subst (λ checks. OnOk c.tell_found.result (c.tell_found.new.findings
    ≡ told_after c.args.findings.now (places_of c.args.location.now) checks))
    (decided c.args.document.now (slice_get (lent_bytes c.args.buffers.now)) c.args.index
    c.args.accessor.now.component_type c.found_once-found.result c.args.drawn.vertices
    c.args.drawn.triangles c.found_once-found.ensures.found (search rules) (search rules))
    c.tell_found.ensures
