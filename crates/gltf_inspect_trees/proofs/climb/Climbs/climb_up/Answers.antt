use Rattle.std.proofs.Common.{◌≤◌, ◌∙◌, refl, sym, arith}
use Rattle.gltf_inspect_trees.proofs.Tables.{tables_none, tables_done, tables_more}
use Rattle.gltf_inspect_trees.proofs.climb.Climbs.climb_up.Goals as goal

pub loop-round-init : goal.loop-round-init
loop-round-init c = record { tables = λ d h. tables_none d c.args.self.now h; depths = refl }

pub returns-then-is_done-clause-tables : goal.returns-then-is_done-clause-tables
returns-then-is_done-clause-tables c =
    let below = c.loop-round-test.true in
    let at_most : c.loop-round.round ≤ 64 = omega arith in
    λ d h.
    tables_done c.loop-round.round 64 d c.loop-round.self (c.loop-round.invariant.tables d h)
    at_most (sym c.is_done.ensures ∙ c.if-is_done.true)

pub loop-round-preserved : goal.loop-round-preserved
loop-round-preserved c = record {
  tables = λ d h.
      tables_more c.loop-round.round d c.loop-round.self c.double.new.self
      (c.loop-round.invariant.tables d h) (sym c.is_done.ensures ∙ c.if-is_done.false)
      c.in_ok-double.ensures.levels c.in_ok-double.ensures.top;
  depths = c.in_ok-double.ensures.depths ∙ c.loop-round.invariant.depths;
}
