use Rattle.std.proofs.Common.{◌≡◌, [], sym, ◌∙◌}
use Rattle.gltf_validation.specs.Rules.{checks_at, broken}
use Rattle.gltf_validation.proofs.Broken.{report_after-broken, hold-where_none, none-where_hold}
use Rattle.gltf_validation.proofs.validate.faults_of.Goals as goal

pub returns-clause-whole : goal.returns-clause-whole
returns-clause-whole g c =
    c.into_faults.ensures
    ∙ c.in_ok-validate.ensures
    ∙ rw c.new-report.ensures (report_after-broken [] []
    (g.T.Validate.rules c.args.counts.now c.args.value.now))

pub returns-clause-none : goal.returns-clause-none
returns-clause-none g c =
    let whole : c.into_faults.result.items
    ≡ broken (checks_at [] (g.T.Validate.rules c.args.counts.now c.args.value.now)) =
    c.into_faults.ensures ∙ c.in_ok-validate.ensures
    ∙ rw c.new-report.ensures (report_after-broken [] []
    (g.T.Validate.rules c.args.counts.now c.args.value.now)) in (
      λ none. hold-where_none [] (g.T.Validate.rules c.args.counts.now c.args.value.now)
          (sym whole ∙ none),
      λ hold. whole ∙ none-where_hold []
          (g.T.Validate.rules c.args.counts.now c.args.value.now) hold,
    )
