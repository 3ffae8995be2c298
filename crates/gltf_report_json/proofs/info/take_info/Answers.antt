use Rattle.std.proofs.Common.{◌≡◌, [], ◌∷◌, ◌++◌, codes, sym, append-nil, rules}
use Rattle.std.proofs.lemmas.Result.{on_ok_weaker}
use Rattle.json.specs.Token.{key}
use Rattle.gltf_report_json.specs.Reported.{info_tokens}
use Rattle.gltf_report_json.proofs.Appended.{joined}
use Rattle.gltf_report_json.proofs.info.take_info.Goals as goal

pub returns-in-None-clause-taken : goal.returns-in-None-clause-taken
returns-in-None-clause-taken g c =
    rw c.in-None.is (sym (append-nil (g.W.TakesTokens.taken c.args.out.now)))

pub returns-in_ok-take-in-Some-clause-taken : goal.returns-in_ok-take-in-Some-clause-taken
returns-in_ok-take-in-Some-clause-taken g c =
    let s = g.W.TakesTokens.taken in
    let name = key (codes "info") ∷ [] in
    let named : s c.take.new.self ≡ s c.args.out.now ++ name = search rules in
    rw c.in-Some.is (on_ok_weaker c.take_document.result
    (joined (s c.args.out.now) name (info_tokens c.in-Some.root.now) named)
    c.take_document.ensures.taken)
