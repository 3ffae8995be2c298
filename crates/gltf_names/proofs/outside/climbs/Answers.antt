use Rattle.std.proofs.Common.{length, sym, ◌∙◌, lit<, arith}
use Rattle.std.proofs.lemmas.Iterator.Consumers.{YieldsList-at, YieldsList-turn, YieldsList-end}
use Rattle.std.proofs.lemmas.Iterator.Splits.{YieldsList-from_str_split}
use Rattle.std.proofs.lemmas.List.{length_push}
use Rattle.gltf_names.specs.Inside.{parts_of}
use Rattle.gltf_names.proofs.Climbing.{up_from_top, rise, fall, stay, at_end, more}
use Rattle.gltf_names.proofs.outside.climbs.Goals as goal

pub returns-then-depth-eq0 : goal.returns-then-depth-eq0
returns-then-depth-eq0 c =
    let chain = YieldsList-at c.into_iter-part-iterator.ensures.into_iter_gives
    (YieldsList-from_str_split 47 c.args.path.now (lit< tt) c.split-part-items.ensures.text
    c.split-part-items.ensures.has_more c.split-part-items.ensures.pattern) in
    let turn = YieldsList-turn chain c.loop-part.yielded _ c.loop-part.yielded_by _ _ c.in-Some.part
    c.in-Some.is c.next.ensures.steps in
    up_from_top c.args.path.now (length c.loop-part.yielded) c.in-Some.part.now c.loop-part.depth
    turn (sym c.eq.ensures ∙ c.if-eq.true) (omega (arith, c.if-depth-eq0.true)) c.loop-part.invariant.same

pub loop-part-preserved-then-eq : goal.loop-part-preserved-then-eq
loop-part-preserved-then-eq c =
    let chain = YieldsList-at c.into_iter-part-iterator.ensures.into_iter_gives
    (YieldsList-from_str_split 47 c.args.path.now (lit< tt) c.split-part-items.ensures.text
    c.split-part-items.ensures.has_more c.split-part-items.ensures.pattern) in
    let turn = YieldsList-turn chain c.loop-part.yielded _ c.loop-part.yielded_by _ _ c.in-Some.part
    c.in-Some.is c.next.ensures.steps in
    let parts = parts_of c.args.path.now in
    record {
      same =
          more parts c.loop-part.yielded c.in-Some.part _ _ c.loop-part.invariant.same
          (rise parts (length c.loop-part.yielded) c.in-Some.part.now c.loop-part.depth turn
          (sym c.eq.ensures ∙ c.if-eq.true) (λ e. omega (arith, c.if-depth-eq0.false, e)));
      few =
          omega (arith, c.loop-part.invariant.few, length_push c.loop-part.yielded c.in-Some.part);
    }

pub loop-part-preserved-then-not-is_still : goal.loop-part-preserved-then-not-is_still
loop-part-preserved-then-not-is_still c =
    let chain = YieldsList-at c.into_iter-part-iterator.ensures.into_iter_gives
    (YieldsList-from_str_split 47 c.args.path.now (lit< tt) c.split-part-items.ensures.text
    c.split-part-items.ensures.has_more c.split-part-items.ensures.pattern) in
    let turn = YieldsList-turn chain c.loop-part.yielded _ c.loop-part.yielded_by _ _ c.in-Some.part
    c.in-Some.is c.next.ensures.steps in
    let parts = parts_of c.args.path.now in
    record {
      same =
          more parts c.loop-part.yielded c.in-Some.part _ _ c.loop-part.invariant.same
          (fall parts (length c.loop-part.yielded) c.in-Some.part.now c.loop-part.depth turn
          (sym c.eq.ensures ∙ c.if-eq.false) (sym c.is_still.ensures ∙ c.if-not-is_still.true));
      few =
          omega (arith, c.loop-part.invariant.few, length_push c.loop-part.yielded c.in-Some.part);
    }

pub loop-part-preserved : goal.loop-part-preserved
loop-part-preserved c =
    let chain = YieldsList-at c.into_iter-part-iterator.ensures.into_iter_gives
    (YieldsList-from_str_split 47 c.args.path.now (lit< tt) c.split-part-items.ensures.text
    c.split-part-items.ensures.has_more c.split-part-items.ensures.pattern) in
    let turn = YieldsList-turn chain c.loop-part.yielded _ c.loop-part.yielded_by _ _ c.in-Some.part
    c.in-Some.is c.next.ensures.steps in
    let parts = parts_of c.args.path.now in
    record {
      same =
          more parts c.loop-part.yielded c.in-Some.part _ _ c.loop-part.invariant.same
          (stay parts (length c.loop-part.yielded) c.in-Some.part.now c.loop-part.depth turn
          (sym c.eq.ensures ∙ c.if-eq.false) (sym c.is_still.ensures ∙ c.if-not-is_still.false));
      few =
          omega (arith, c.loop-part.invariant.few, length_push c.loop-part.yielded c.in-Some.part);
    }

pub returns : goal.returns
returns c =
    let chain = YieldsList-at c.into_iter-part-iterator.ensures.into_iter_gives
    (YieldsList-from_str_split 47 c.args.path.now (lit< tt) c.split-part-items.ensures.text
    c.split-part-items.ensures.has_more c.split-part-items.ensures.pattern) in
    let end = YieldsList-end chain c.loop-part.yielded _ c.loop-part.yielded_by _ _ c.in-None.is
    c.next.ensures.steps in
    at_end c.args.path.now (length c.loop-part.yielded) c.loop-part.depth (omega (arith, end.1))
    c.loop-part.invariant.same
