use Rattle.std.proofs.Common.{◌≡◌, ◌++◌, vec_len, codes, rules}
use Rattle.gltf_report_json.specs.Held.{in_64_bits, primitive_count}
use Rattle.gltf_report_json.specs.Reported.{number_member, names_member, generator_member}
use Rattle.gltf_report_json.proofs.Appended.{joined}
use Rattle.gltf_report_json.proofs.info.take_front.Goals as goal

pub returns-clause-taken : goal.returns-clause-taken
returns-clause-taken g c =
    let s = g.W.TakesTokens.taken in
    let x1 = number_member (codes "animationCount") (vec_len c.args.root.now.animations) in
    let e1 : s c.take_number.new.out ≡ s c.args.out.now ++ x1 =
    search (rules, c.in_ok-take_number.ensures.taken, c.len.ensures) in
    let calls = in_64_bits (primitive_count c.args.root.now) in
    let x2 = number_member (codes "drawCallCount") calls in
    let e2 : s c.take_number-2.new.out ≡ s c.take_number.new.out ++ x2 =
    search (rules, c.in_ok-take_number-2.ensures.taken, c.draw_calls.ensures) in
    let x3 = names_member (codes "extensionsRequired") c.args.root.now.extensions_required.items in
    let e3 : s c.take_names.new.out ≡ s c.take_number-2.new.out ++ x3 =
    search (rules, c.in_ok-take_names.ensures.taken, c.as_slice.ensures) in
    let x4 = names_member (codes "extensionsUsed") c.args.root.now.extensions_used.items in
    let e4 : s c.take_names-2.new.out ≡ s c.take_names.new.out ++ x4 =
    search (rules, c.in_ok-take_names-2.ensures.taken, c.as_slice-2.ensures) in
    let x5 = generator_member c.args.root.now.asset.generator in
    let e5 : s c.take_generator.new.out ≡ s c.take_names-2.new.out ++ x5 =
    search (rules, c.in_ok-take_generator.ensures.taken) in
    let y5 = x5 in
    let b4 = joined (s c.take_names.new.out) x4 y5 e4 e5 in
    let y4 = x4 ++ y5 in
    let b3 = joined (s c.take_number-2.new.out) x3 y4 e3 b4 in
    let y3 = x3 ++ y4 in
    let b2 = joined (s c.take_number.new.out) x2 y3 e2 b3 in
    let y2 = x2 ++ y3 in
    joined (s c.args.out.now) x1 y2 e1 b2
