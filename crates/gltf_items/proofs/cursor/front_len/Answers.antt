use Rattle.std.proofs.Common.{◌≡◌, ℕ, List, ap, ◌∙◌, arith, rules}
use Rattle.std.specs.Prelude.{slice_index}
use Rattle.gltf_items.proofs.Fronts.{ahead_all, ahead_more, ahead_none, ahead_end}
use Rattle.gltf_items.proofs.Cursors.{same_indices}
use Rattle.gltf_items.proofs.cursor.front_len.Goals as goal

pub loop-front-init : goal.loop-front-init
loop-front-init g c = record {
  within = omega arith;
  least = omega arith;
  rest = omega (arith, ahead_all c.args.stored.now.indices c.args.stored.now.values);
  same = search rules;
}

pub loop-front-preserved : goal.loop-front-preserved
loop-front-preserved g c =
    let same = same_indices c.args.stored.now c.loop-front.invariant.same in
    let widened : c.from-index.result ≡ c.index.result = search rules in
    let given : c.from-index.result ≡ slice_index c.args.stored.now.indices c.loop-front.front =
    widened ∙ c.index.ensures.gives ∙ ap
    (λ (xs : List ℕ). slice_index xs c.loop-front.front) same in
    let more = ahead_more c.args.stored.now.indices c.args.stored.now.values c.loop-front.least
    c.loop-front.front (omega arith) (omega arith) (omega (arith, given)) in
    record {
      within = omega arith;
      least = omega (arith, c.index.type_inv);
      rest = rw given (omega (arith, more, c.loop-front.invariant.rest));
      same = search rules;
    }

pub returns-after-loop-front-clause-gives : goal.returns-after-loop-front-clause-gives
returns-after-loop-front-clause-gives g c =
    omega (
      arith,
      c.loop-front.invariant.rest,
      ahead_end c.args.stored.now.indices c.args.stored.now.values c.loop-front.least
          c.loop-front.front (omega arith),
    )

pub returns-then-index-least-clause-gives : goal.returns-then-index-least-clause-gives
returns-then-index-least-clause-gives g c =
    let same = same_indices c.args.stored.now c.loop-front.invariant.same in
    let widened : c.from-index.result ≡ c.index.result = search rules in
    let given : c.from-index.result ≡ slice_index c.args.stored.now.indices c.loop-front.front =
    widened ∙ c.index.ensures.gives ∙ ap
    (λ (xs : List ℕ). slice_index xs c.loop-front.front) same in
    omega (
      arith,
      c.loop-front.invariant.rest,
      ahead_none c.args.stored.now.indices c.args.stored.now.values c.loop-front.least
          c.loop-front.front (omega arith) (omega arith) (omega (arith, given)),
    )
