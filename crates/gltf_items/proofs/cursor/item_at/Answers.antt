use Rattle.std.proofs.Common.{◌≢◌, ◌<◌, ℕ, List, Option, length, sym, ap, ◌∙◌, arith}
use Rattle.std.specs.Prelude.{slice_index}
use Rattle.gltf_items.specs.Cursor.{Rises}
use Rattle.gltf_items.specs.Sparse.{under}
use Rattle.gltf_items.proofs.Fronts.{length-front, front_rises}
use Rattle.gltf_items.proofs.Overridden.{item_at_value, item_at_base}
use Rattle.gltf_items.proofs.Cursors.{same_base, same_values, others_miss, stands_behind_hit}
use Rattle.gltf_items.proofs.Cursors.{stands_behind_miss}
use Rattle.gltf_items.proofs.cursor.item_at.Goals as goal

pub is_here-requires : goal.is_here-requires
is_here-requires g c = omega (
  arith,
  c.requires.front,
  (length-front c.args.stored.now.indices c.args.stored.now.values).0,
)

pub value-requires : goal.value-requires
value-requires g c =
    let same = same_values c.args.stored.now c.is_here.ensures.counts in
    omega (
      arith,
      c.requires.front,
      (c.is_here.ensures.hit c.if-is_here.true).0,
      ap length same,
      (length-front c.args.stored.now.indices c.args.stored.now.values).1,
    )

pub returns-then-is_here-clause-gives : goal.returns-then-is_here-clause-gives
returns-then-is_here-clause-gives g c =
    let same = same_values c.args.stored.now c.is_here.ensures.counts in
    let hit = c.is_here.ensures.hit c.if-is_here.true in
    sym (item_at_value g.T.Item.zero_item c.args.stored.now.base c.args.stored.now.indices
    c.args.stored.now.values c.args.position c.args.cursor c.value.result
    (omega (arith, c.requires.front, hit.0)) hit.1 (rw same at c.value.ensures.gives))

pub returns-then-is_here-clause-stands : goal.returns-then-is_here-clause-stands
returns-then-is_here-clause-stands g c =
    let hit = c.is_here.ensures.hit c.if-is_here.true in
    stands_behind_hit (rw c.requires.front
    (front_rises c.args.stored.now.indices c.args.stored.now.values))
    c.requires.stands hit.0 hit.1

pub returns-else-is_here-clause-gives : goal.returns-else-is_here-clause-gives
returns-else-is_here-clause-gives g c =
    let rises : Rises c.args.stored.now.indices c.args.front_len =
    rw c.requires.front (front_rises c.args.stored.now.indices c.args.stored.now.values) in
    let same = same_base c.args.stored.now c.is_here.ensures.counts in
    let others : (k : ℕ) → k < c.args.front_len
    → slice_index c.args.stored.now.indices k ≢ c.args.position =
    others_miss rises c.requires.stands (c.is_here.ensures.miss c.if-is_here.false) in
    c.base_item.ensures.gives ∙ ap (λ (b : Option (List g.row.T.Denot)).
    under g.T.Item.zero_item b c.args.position) same
    ∙ sym (item_at_base g.T.Item.zero_item c.args.stored.now.base c.args.stored.now.indices
    c.args.stored.now.values c.args.position
    (λ k h. others k (omega (arith, c.requires.front))))

pub returns-else-is_here-clause-stands : goal.returns-else-is_here-clause-stands
returns-else-is_here-clause-stands g c =
    stands_behind_miss (rw c.requires.front
    (front_rises c.args.stored.now.indices c.args.stored.now.values)) c.requires.stands
    (c.is_here.ensures.miss c.if-is_here.false)
