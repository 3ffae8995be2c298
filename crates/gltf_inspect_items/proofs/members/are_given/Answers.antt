use Rattle.std.proofs.Common.{sym}
use Rattle.std.specs.Prelude.{slice_get}
use Rattle.gltf_shared.specs.Shown.{lent_bytes}
use Rattle.gltf_inspect_items.proofs.Few.{length_values}
use Rattle.gltf_inspect_items.proofs.members.are_given.Goals as goal

pub returns-in-Some : goal.returns-in-Some
returns-in-Some g c = λ is.
    length_values g.T.Item c.args.document.now (slice_get (lent_bytes c.args.buffers.now))
    c.args.sparse.now _ (sym c.in-Some.ensures)
