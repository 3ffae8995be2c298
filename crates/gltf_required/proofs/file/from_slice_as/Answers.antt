use Rattle.std.proofs.Common.{ℕ, List, sym, subst}
use Rattle.std.specs.Prelude.{Option}
use Rattle.gltf_required.specs.Import.{IsOpenedAs}
use Rattle.gltf_required.proofs.file.from_slice_as.Goals as goal

pub returns-clause-opened : goal.returns-clause-opened
returns-clause-opened c =
    subst (λ (b : Option (List ℕ)).
    IsOpenedAs c.args.required.now c.args.slice.now c.in_ok-document.document b)
    (sym c.in_ok-blob.ensures.ok) c.in_ok-document.ensures.opened
