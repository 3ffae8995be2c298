use Rattle.std.proofs.Common.{◌≡◌, ◌++◌, codes, rules}
use Rattle.gltf_findings.specs.Reports.{count_of}
use Rattle.gltf_findings.specs.declared.code.Severity.TheVariants as grave
use Rattle.gltf_report_json.specs.Reported.{number_member}
use Rattle.gltf_report_json.proofs.Appended.{joined}
use Rattle.gltf_report_json.proofs.text.take_counts.Goals as goal

pub returns-clause-taken : goal.returns-clause-taken
returns-clause-taken g c =
    let s = g.W.TakesTokens.taken in
    let x1 = number_member (codes "numErrors") (count_of grave.Error c.args.report.now) in
    let e1 : s c.take_number.new.out ≡ s c.args.out.now ++ x1 =
    search (rules, c.in_ok-take_number.ensures.taken, c.count.ensures) in
    let x2 = number_member (codes "numHints") (count_of grave.Hint c.args.report.now) in
    let e2 : s c.take_number-2.new.out ≡ s c.take_number.new.out ++ x2 =
    search (rules, c.in_ok-take_number-2.ensures.taken, c.count-2.ensures) in
    let x3 = number_member (codes "numInfos") (count_of grave.Information c.args.report.now) in
    let e3 : s c.take_number-3.new.out ≡ s c.take_number-2.new.out ++ x3 =
    search (rules, c.in_ok-take_number-3.ensures.taken, c.count-3.ensures) in
    let x4 = number_member (codes "numWarnings") (count_of grave.Warning c.args.report.now) in
    let e4 : s c.take_number-4.new.out ≡ s c.take_number-3.new.out ++ x4 =
    search (rules, c.in_ok-take_number-4.ensures.taken, c.count-4.ensures) in
    let y4 = x4 in
    let b3 = joined (s c.take_number-2.new.out) x3 y4 e3 e4 in
    let y3 = x3 ++ y4 in
    let b2 = joined (s c.take_number.new.out) x2 y3 e2 b3 in
    let y2 = x2 ++ y3 in
    let b1 = joined (s c.args.out.now) x1 y2 e1 b2 in
    b1
