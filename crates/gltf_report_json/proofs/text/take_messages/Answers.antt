use Rattle.std.proofs.Common.{◌≡◌, ◌+◌, [], ◌∷◌, ◌++◌, drop, refl, sym, ap, ◌∙◌, subst, arith}
use Rattle.std.proofs.Common.{rules, append_assoc, append-nil}
use Rattle.std.proofs.lemmas.List.{drop_more, drop_all}
use Rattle.std.proofs.lemmas.Result.{on_ok_weaker}
use Rattle.json.specs.Token.{begin_array, end_array}
use Rattle.gltf_json_record.specs.Pointer.{pointer_text}
use Rattle.gltf_report_json.specs.Reported.{AreMessages, message_tokens}
use Rattle.gltf_report_json.proofs.text.take_messages.Goals as goal

pub loop-finding-preserved : goal.loop-finding-preserved
loop-finding-preserved g c =
    let l = c.loop-finding in
    let xs = c.findings-finding-items.result.now in
    let x = c.finding-item.result in
    let told = c.tell.new.self in
    let m = message_tokens x.1 (pointer_text x.0) told.1 in
    let here : drop l.finding-index xs ≡ x ∷ drop (l.finding-index + 1) xs =
    drop_more xs l.finding-index x (omega arith)
    ∙ ap (λ y. y ∷ drop (l.finding-index + 1) xs) (sym c.finding-item.is) in
    let wrote : g.W.TakesTokens.taken c.take_message.new.out ≡ g.W.TakesTokens.taken l.out ++ m =
    c.in_ok-take_message.ensures.taken
    ∙ ap (λ p. g.W.TakesTokens.taken l.out ++ message_tokens x.1 p told.1)
    c.in_ok-tell.ensures.place in (
      search rules,
      λ rest are.
          let all =
          l.invariant.1 (m ++ rest)
          (subst (λ ys. AreMessages ys (m ++ rest)) (sym here)
          (told.1, rest, c.in_ok-tell.ensures.says, refl, are)) in
          (all.0, all.1, ap (λ ts. ts ++ rest) wrote ∙ append_assoc _ m rest ∙ all.2),
    )

pub returns-clause-taken : goal.returns-clause-taken
returns-clause-taken g c =
    let l = c.loop-finding in
    let xs = c.findings-finding-items.result.now in
    let none : drop l.finding-index xs ≡ [] = drop_all l.finding-index xs (omega arith) in
    let all = l.invariant.1 [] (subst (λ ys. AreMessages ys []) (sym none) refl) in
    on_ok_weaker c.take-2.result (λ e. (
      all.0,
      subst (λ ys. AreMessages ys all.0) c.findings-finding-items.ensures all.1,
      e ∙ ap (λ ts. ts ++ end_array ∷ []) (sym (append-nil _) ∙ all.2)
          ∙ append_assoc _ (begin_array ∷ all.0) (end_array ∷ []),
    )) c.take-2.ensures.taken
