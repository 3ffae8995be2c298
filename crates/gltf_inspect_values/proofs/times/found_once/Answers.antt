use Rattle.std.proofs.Common.{sym, subst}
use Rattle.std.specs.Prelude.{slice_get}
use Rattle.gltf_shared.specs.Shown.{lent_bytes}
use Rattle.gltf_inspect_values.specs.Times.{AreFound}
use Rattle.gltf_inspect_values.proofs.Once.{still}
use Rattle.gltf_inspect_values.proofs.times.found_once.Goals as goal

pub returns-in-None-clause-kept : goal.returns-in-None-clause-kept
returns-in-None-clause-kept c =
    let bytes = slice_get (lent_bytes c.args.buffers.now) in
    subst (AreFound c.args.document.now bytes) (sym c.keep.ensures)
    (still c.args.document.now bytes c.args.table.now c.args.index c.found_at-found.result c.requires
    c.found_at-found.ensures)
