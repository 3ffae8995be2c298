use Rattle.std.proofs.Common.{◌≡◌, ◌∷◌, ◌++◌, List, drop}
use Rattle.json.specs.Token.{Token, begin_array}
use Rattle.gltf_report_json.specs.Reported.{AreMessages}
use Rattle.gltf_report_json.proofs.text.take_messages.Given as goal

-- whatever the messages of the findings that are left, those of all are written with them
abbrev pub invariant-loop-finding : goal.invariant-loop-finding
invariant-loop-finding g l =
    (g.W.TakesTokens.before l.out ≡ g.W.TakesTokens.before l.fn.out)
    × ((rest : List Token) → AreMessages (drop l.finding-index l.finding-items) rest
    → (messages : List Token) × AreMessages l.finding-items messages
    × (g.W.TakesTokens.taken l.out ++ rest
    ≡ g.W.TakesTokens.taken l.fn.out ++ begin_array ∷ messages))
