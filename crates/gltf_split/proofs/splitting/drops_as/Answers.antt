use Rattle.std.proofs.Common.{sym, ap, ◌∙◌}
use Rattle.std.specs.Prelude.{Option}
use Rattle.gltf_mend.specs.declared.mends.Mends.{Mends}
use Rattle.gltf_split.specs.Splits.{drops_by}
use Rattle.gltf_split.proofs.splitting.drops_as.Goals as goal

pub returns-in-Some : goal.returns-in-Some
returns-in-Some c =
    ap (λ (o : Option Mends). drops_by o c.args.options.now) (sym (sym c.mends.ensures ∙ c.in-Some.is))

pub returns-in-None : goal.returns-in-None
returns-in-None c =
    c.drops_views.ensures
    ∙ ap (λ (o : Option Mends). drops_by o c.args.options.now)
    (sym (sym c.mends.ensures ∙ c.in-None.is))
