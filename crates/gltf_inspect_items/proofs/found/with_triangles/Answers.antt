use Rattle.std.specs.Prelude.{slice_get}
use Rattle.gltf_shared.specs.Shown.{lent_bytes}
use Rattle.gltf_inspect_items.proofs.Decides.{with_degenerate}
use Rattle.gltf_inspect_items.proofs.found.with_triangles.Goals as goal

pub returns-clause-found : goal.returns-clause-found
returns-clause-found c =
    with_degenerate c.args.document.now (slice_get (lent_bytes c.args.buffers.now)) c.args.index
    c.args.component c.args.found c.degenerate_at.result c.requires c.degenerate_at.ensures
