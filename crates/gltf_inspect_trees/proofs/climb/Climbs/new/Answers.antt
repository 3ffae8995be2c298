use Rattle.std.proofs.Common.{◌≤◌, ◌∙◌, ap, refl, arith, length, map}
use Rattle.gltf_inspect_trees.specs.Climbs.{first_climb, raised}
use Rattle.gltf_inspect_trees.proofs.Deep.{is_rooted, same_depths}
use Rattle.gltf_inspect_trees.proofs.Tables.{climb_is}
use Rattle.gltf_inspect_trees.proofs.climb.Climbs.new.Goals as goal

pub returns : goal.returns
returns c =
    let ps = c.args.parents.items in
    let small = c.args.parents.small in
    let ok = c.args.parents.ok in
    let few : length c.args.parents.items ≤ 18446744073709551615 = omega arith in
    let tables = c.in_ok-climb_up.ensures.tables (first_climb c.args.parents.items)
    (record { levels = ap (λ ts. map (λ t. t.items) ts) c.new.ensures.items; top = refl }) in
    climb_is (raised 64 (first_climb c.args.parents.items)) c.climb_up.new.self tables
    (ap (λ v. v.items) c.in_ok-climb_up.ensures.depths
    ∙ same_depths ps c.args.depths.items c.requires
    (is_rooted ps c.args.depths.items c.requires few))
