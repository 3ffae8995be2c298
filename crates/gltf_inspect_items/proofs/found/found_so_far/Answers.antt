use Rattle.std.specs.Prelude.{slice_get}
use Rattle.gltf_shared.specs.Shown.{lent_bytes}
use Rattle.gltf_inspect_items.proofs.Decides.{in_table}
use Rattle.gltf_inspect_items.proofs.found.found_so_far.Goals as goal

pub returns-in-Some : goal.returns-in-Some
returns-in-Some c =
    in_table c.args.document.now (slice_get (lent_bytes c.args.buffers.now)) c.args.index
    c.args.accessor.now c.in-Some.found c.requires.here
    (c.requires.kept c.args.index c.in-Some.found c.in-Some.ensures)
