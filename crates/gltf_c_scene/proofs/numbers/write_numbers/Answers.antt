use Rattle.std.proofs.Common.{◌≡◌, ◌<◌, ◌∙◌, length, arith, ap, min}
use Rattle.std.proofs.lemmas.Grind.{common_steps}
use Rattle.std.specs.Option.{option_copied}
use Rattle.gltf_c_scene.specs.Values.{listed_numbers}
use Rattle.gltf_c_scene.proofs.Listed.{next_written, count_of_values, all_written}
use Rattle.gltf_c_scene.proofs.numbers.write_numbers.Goals as goal

pub loop-i-preserved : goal.loop-i-preserved
loop-i-preserved c =
    let xs = listed_numbers (option_copied c.args.member) in
    let at = c.number_at.ensures xs c.number_values-values.ensures in
    let below : c.loop-i.i < length c.args.out.now = grind (arith, common_steps) in
    next_written xs c.args.out.now c.loop-i.out c.loop-i.i c.number_at.result c.loop-i.invariant at
    below

pub returns-clause-count : goal.returns-clause-count
returns-clause-count c =
    count_of_values c.number_values-values.result.now (listed_numbers (option_copied c.args.member))
    c.number_values-values.ensures

pub returns-clause-written : goal.returns-clause-written
returns-clause-written c =
    let xs = listed_numbers (option_copied c.args.member) in
    let same = count_of_values c.number_values-values.result.now
    xs c.number_values-values.ensures in
    let end : c.loop-i.i ≡ c.min-count.result =
    omega (arith, c.loop-i.auto.i-end, c.loop-i-test.false) in
    c.loop-i.invariant
    ∙ all_written xs c.args.out.now c.loop-i.i
    (end ∙ c.min-count.ensures ∙ ap (λ n. min n (length c.args.out.now)) same)
