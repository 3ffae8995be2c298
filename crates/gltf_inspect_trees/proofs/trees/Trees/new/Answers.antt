use Rattle.std.proofs.Common.{◌≤◌, subst, length, arith, true, false, rules}
use Rattle.std.specs.Prelude.{IsTrue}
use Rattle.gltf_inspect_nodes.specs.Orders.{ParentsComeFirst, ParentsComeLast}
use Rattle.gltf_inspect_trees.proofs.Rooting.{order_first, order_last, below_in_order}
use Rattle.gltf_inspect_trees.proofs.trees.Trees.new.Goals as goal

pub returns-in_ok-jumps : goal.returns-in_ok-jumps
returns-in_ok-jumps c =
    let ps = c.args.parents.items in
    let small = c.args.parents.small in
    let ok = c.args.parents.ok in
    let few : length c.args.parents.items ≤ 18446744073709551615 = omega arith in
    let yes : IsTrue true = search rules in
    let first = subst (λ t. ParentsComeFirst t) c.deref.ensures.value
    (c.if-parents_come_first.ensures.0 yes) in
    below_in_order true ps c.in_ok-jumps.jumps.parents.items (order_first ps first) few
    c.in_ok-jumps.ensures

pub returns-in_ok-jumps-2 : goal.returns-in_ok-jumps-2
returns-in_ok-jumps-2 c =
    let ps = c.args.parents.items in
    let small = c.args.parents.small in
    let ok = c.args.parents.ok in
    let few : length c.args.parents.items ≤ 18446744073709551615 = omega arith in
    let yes : IsTrue true = search rules in
    let last = subst (λ t. ParentsComeLast t) c.deref-else-parents_come_first.ensures.value
    (c.if-parents_come_last.ensures.0 yes) in
    below_in_order false ps c.in_ok-jumps-2.jumps.parents.items (order_last ps last few) few
    c.in_ok-jumps-2.ensures
