use Rattle.std.proofs.Common.{◌≤◌, subst, length, arith}
use Rattle.gltf_inspect_trees.specs.Climbs.{climb_of}
use Rattle.gltf_inspect_trees.specs.Depths.{AreDepths, MatchDepths}
use Rattle.gltf_inspect_trees.proofs.Deep.{is_rooted, not_rooted, below_rooted, below_looped}
use Rattle.gltf_inspect_trees.proofs.trees.Trees.in_no_order.Goals as goal

pub returns-in_ok-climbs-in-Some : goal.returns-in_ok-climbs-in-Some
returns-in_ok-climbs-in-Some c =
    let small = c.args.parents.small in
    let ok = c.args.parents.ok in
    let few : length c.args.parents.items ≤ 18446744073709551615 = omega arith in
    let all : AreDepths c.args.parents.items c.in-Some.depths.items =
    subst (λ t. AreDepths t c.in-Some.depths.items) c.deref.ensures.value
    (subst (λ found. MatchDepths c.deref.result.now found) c.in-Some.is c.in_ok-depths.ensures) in
    below_rooted c.args.parents.items (climb_of c.in_ok-climbs-in-Some.climbs)
    c.in_ok-climbs-in-Some.ensures
    (is_rooted c.args.parents.items c.in-Some.depths.items all few)

pub returns-in-None : goal.returns-in-None
returns-in-None c =
    let none = subst (λ t. MatchDepths t c.in_ok-depths.field-0) c.deref.ensures.value
    c.in_ok-depths.ensures in
    let looped = subst (λ found. MatchDepths c.args.parents.items found) c.in-None.is none in
    λ s k. below_looped c.args.parents.items s k
    (not_rooted c.args.parents.items looped.0 looped.1)
