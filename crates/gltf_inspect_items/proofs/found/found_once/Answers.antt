use Rattle.std.proofs.Common.{subst, sym, rules}
use Rattle.std.specs.Prelude.{slice_get}
use Rattle.gltf_shared.specs.Shown.{lent_bytes}
use Rattle.gltf_inspect_items.specs.Found.{AreFound}
use Rattle.gltf_inspect_items.proofs.Decides.{still}
use Rattle.gltf_inspect_items.proofs.found.found_once.Goals as goal

pub returns-clause-kept : goal.returns-clause-kept
returns-clause-kept c =
    let bytes = slice_get (lent_bytes c.args.buffers.now) in
    subst (AreFound c.args.document.now bytes) (sym c.keep.ensures)
    (still c.args.document.now bytes c.args.table.now c.args.index c.args.accessor.now _
    c.requires.here c.requires.kept (search rules))
