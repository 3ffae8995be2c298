use Rattle.std.proofs.Common.{◌≤◌, ◌∙◌, sym, subst, length, arith}
use Rattle.gltf_inspect_trees.specs.Jumps.{AreJumps}
use Rattle.gltf_inspect_trees.proofs.Jumping.{first_jumps}
use Rattle.gltf_inspect_trees.proofs.jumps.Jumps.new.Goals as goal

pub set_jumps-requires-clause-jumps : goal.set_jumps-requires-clause-jumps
set_jumps-requires-clause-jumps c =
    let ps = c.args.parents.items in
    let small = c.args.parents.small in
    let ok = c.args.parents.ok in
    let few : length c.args.parents.items ≤ 18446744073709551615 = omega arith in
    let same = c.deref_mut.ensures.value ∙ c.in_ok-jumps.ensures.items ∙ c.deref.ensures.value in
    subst (λ p. AreJumps c.args.parents_come_first p c.deref_mut.result.now)
    (sym c.deref-2.ensures.value)
    (subst (λ t. AreJumps c.args.parents_come_first c.args.parents.items t) (sym same)
    (first_jumps c.args.parents_come_first ps c.requires few))
