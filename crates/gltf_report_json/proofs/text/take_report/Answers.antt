use Rattle.std.proofs.Common.{◌≡◌, [], ◌∷◌, ◌++◌, codes, option_map, refl, rules}
use Rattle.json.specs.Token.{begin_object, end_object, key}
use Rattle.gltf_report_json.specs.Reported.{text_member, info_member, issues_tokens}
use Rattle.gltf_report_json.specs.Reported.{report_tokens}
use Rattle.gltf_report_json.proofs.Appended.{joined}
use Rattle.gltf_report_json.proofs.text.take_report.Goals as goal

pub returns-clause-taken : goal.returns-clause-taken
returns-clause-taken g c =
    let root = option_map (λ r. r.now) c.args.root in
    let issues = c.in_ok-take_issues.ensures.taken in
    let s = g.W.TakesTokens.taken in
    let x1 = begin_object ∷ [] in
    let e1 : s c.take.new.self ≡ s c.args.out.now ++ x1 =
    search (rules, c.in_ok-take.ensures.taken) in
    let x2 = info_member root in
    let e2 : s c.take_info.new.out ≡ s c.take.new.self ++ x2 =
    c.in_ok-take_info.ensures.taken in
    let x3 = key (codes "issues") ∷ [] in
    let e3 : s c.take-2.new.self ≡ s c.take_info.new.out ++ x3 =
    search (rules, c.in_ok-take-2.ensures.taken) in
    let x4 = issues_tokens c.args.report.now issues.0 in
    let e4 : s c.take_issues.new.out ≡ s c.take-2.new.self ++ x4 = issues.2 in
    let x5 = text_member (codes "uri") c.args.name.now in
    let e5 : s c.take_text.new.out ≡ s c.take_issues.new.out ++ x5 =
    search (rules, c.in_ok-take_text.ensures.taken) in
    let x6 = text_member (codes "validatorVersion") (codes "gltf_inspect 1") in
    let e6 : s c.take_text-2.new.out ≡ s c.take_text.new.out ++ x6 =
    search (rules, c.in_ok-take_text-2.ensures.taken) in
    let x7 = end_object ∷ [] in
    let e7 : s c.take-3.new.self ≡ s c.take_text-2.new.out ++ x7 =
    search (rules, c.in_ok-take-3.ensures.taken) in
    let y7 = x7 in
    let b6 = joined (s c.take_text.new.out) x6 y7 e6 e7 in
    let y6 = x6 ++ y7 in
    let b5 = joined (s c.take_issues.new.out) x5 y6 e5 b6 in
    let y5 = x5 ++ y6 in
    let b4 = joined (s c.take-2.new.self) x4 y5 e4 b5 in
    let y4 = x4 ++ y5 in
    let b3 = joined (s c.take_info.new.out) x3 y4 e3 b4 in
    let y3 = x3 ++ y4 in
    let b2 = joined (s c.take.new.self) x2 y3 e2 b3 in
    let y2 = x2 ++ y3 in
    let b1 = joined (s c.args.out.now) x1 y2 e1 b2 in
    let all = report_tokens c.args.name.now c.args.report.now root issues.0 in
    (all, (issues.0, issues.1, refl), b1)
