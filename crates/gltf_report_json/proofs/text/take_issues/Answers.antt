use Rattle.std.proofs.Common.{◌≡◌, [], ◌∷◌, ◌++◌, false, codes, ap, ◌∙◌, append_assoc, rules}
use Rattle.json.specs.Token.{begin_object, end_object, begin_array, end_array, key}
use Rattle.gltf_report_json.specs.Reported.{count_members, flag_member}
use Rattle.gltf_report_json.proofs.Appended.{joined}
use Rattle.gltf_report_json.proofs.text.take_issues.Goals as goal

pub returns-clause-taken : goal.returns-clause-taken
returns-clause-taken g c =
    let written = c.in_ok-take_messages.ensures.taken in
    let s = g.W.TakesTokens.taken in
    let x1 = begin_object ∷ [] in
    let e1 : s c.take.new.self ≡ s c.args.out.now ++ x1 =
    search (rules, c.in_ok-take.ensures.taken) in
    let x2 = key (codes "messages") ∷ [] in
    let e2 : s c.take-2.new.self ≡ s c.take.new.self ++ x2 =
    search (rules, c.in_ok-take-2.ensures.taken) in
    let x3 = begin_array ∷ (written.0 ++ end_array ∷ []) in
    let e3 : s c.take_messages.new.out ≡ s c.take-2.new.self ++ x3 = written.2 in
    let x4 = count_members c.args.report.now in
    let e4 : s c.take_counts.new.out ≡ s c.take_messages.new.out ++ x4 =
    search (rules, c.in_ok-take_counts.ensures.taken) in
    let x5 = flag_member (codes "truncated") false in
    let e5 : s c.take_flag.new.out ≡ s c.take_counts.new.out ++ x5 =
    search (rules, c.in_ok-take_flag.ensures.taken) in
    let x6 = end_object ∷ [] in
    let e6 : s c.take-3.new.self ≡ s c.take_flag.new.out ++ x6 =
    search (rules, c.in_ok-take-3.ensures.taken) in
    let y6 = x6 in
    let b5 = joined (s c.take_counts.new.out) x5 y6 e5 e6 in
    let y5 = x5 ++ y6 in
    let b4 = joined (s c.take_messages.new.out) x4 y5 e4 b5 in
    let y4 = x4 ++ y5 in
    let b3 = joined (s c.take-2.new.self) x3 y4 e3 b4 in
    let y3 = x3 ++ y4 in
    let b2 = joined (s c.take.new.self) x2 y3 e2 b3 in
    let y2 = x2 ++ y3 in
    let b1 = joined (s c.args.out.now) x1 y2 e1 b2 in
    let opened = begin_object ∷ key (codes "messages") ∷ begin_array ∷ [] in
    let closed = append_assoc written.0 (end_array ∷ []) y4 in
    (written.0, written.1, b1 ∙ ap (λ ts. s c.args.out.now ++ (opened ++ ts)) closed)
