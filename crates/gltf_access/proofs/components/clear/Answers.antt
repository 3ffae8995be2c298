use Rattle.std.proofs.Common.{◌≡◌, ℕ, ◌++◌, drop, ap, subst, ◌∙◌, arith}
use Rattle.std.specs.Prelude.{replicate}
use Rattle.std.proofs.Math.ListN.{set}
use Rattle.std.proofs.lemmas.List.Edits.{fill_none, fill_more}
use Rattle.gltf_access.proofs.components.clear.Goals as goal

pub loop-i-init : goal.loop-i-init
loop-i-init c = fill_none _ 0

pub loop-i-preserved : goal.loop-i-preserved
loop-i-preserved c =
    ap (λ z. set z c.loop-i.i 0) c.loop-i.invariant
    ∙ fill_more c.loop-i.i 0 c.args.out.now (omega (arith, c.requires))

pub returns : goal.returns
returns c =
    subst (λ (k : ℕ). c.loop-i.out ≡ replicate k 0 ++ drop k c.args.out.now) (omega arith)
    c.loop-i.invariant
