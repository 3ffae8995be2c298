use Rattle.std.proofs.Common.{◌≡◌, [], ◌∷◌, ◌++◌, codes, rules}
use Rattle.json.specs.Token.{begin_object, end_object}
use Rattle.gltf_findings.specs.Codes.{code_text, severity, severity_number}
use Rattle.gltf_report_json.specs.Reported.{text_member, number_member}
use Rattle.gltf_report_json.proofs.Appended.{joined}
use Rattle.gltf_report_json.proofs.text.take_message.Goals as goal

pub returns-clause-taken : goal.returns-clause-taken
returns-clause-taken g c =
    let s = g.W.TakesTokens.taken in
    let x1 = begin_object ∷ [] in
    let e1 : s c.take.new.self ≡ s c.args.out.now ++ x1 = search rules in
    let x2 = text_member (codes "code") (code_text c.args.code) in
    let e2 : s c.take_text.new.out ≡ s c.take.new.self ++ x2 = search rules in
    let x3 = text_member (codes "message") c.args.told.now.1 in
    let e3 : s c.take_text-2.new.out ≡ s c.take_text.new.out ++ x3 = search rules in
    let x4 = text_member (codes "pointer") c.args.told.now.0 in
    let e4 : s c.take_text-3.new.out ≡ s c.take_text-2.new.out ++ x4 = search rules in
    let x5 = number_member (codes "severity") (severity_number (severity c.args.code)) in
    let e5 : s c.take_number.new.out ≡ s c.take_text-3.new.out ++ x5 = search rules in
    let x6 = end_object ∷ [] in
    let e6 : s c.take-2.new.self ≡ s c.take_number.new.out ++ x6 = search rules in
    let y6 = x6 in
    let b5 = joined (s c.take_text-3.new.out) x5 y6 e5 e6 in
    let y5 = x5 ++ y6 in
    let b4 = joined (s c.take_text-2.new.out) x4 y5 e4 b5 in
    let y4 = x4 ++ y5 in
    let b3 = joined (s c.take_text.new.out) x3 y4 e3 b4 in
    let y3 = x3 ++ y4 in
    let b2 = joined (s c.take.new.self) x2 y3 e2 b3 in
    let y2 = x2 ++ y3 in
    let b1 = joined (s c.args.out.now) x1 y2 e1 b2 in
    b1
