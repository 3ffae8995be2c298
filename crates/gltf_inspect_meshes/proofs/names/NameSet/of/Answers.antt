use Rattle.std.proofs.Common.{◌≡◌, ◌||◌, ◌∙◌, ap, sym, true, string_bytes, arith}
use Rattle.std.specs.Prelude.{bytes_eq}
use Rattle.std.specs.BTreeSet.{contains_text}
use Rattle.std.proofs.lemmas.Cmp.{nat_list_eq_equiv}
use Rattle.std.proofs.lemmas.Map.Text.{btree_set_updates_text}
use Rattle.gltf_inspect_meshes.proofs.Among.{among_more, has_more}
use Rattle.gltf_inspect_meshes.proofs.names.NameSet.of.Goals as goal

pub loop-name-preserved : goal.loop-name-preserved
loop-name-preserved c = λ q.
    let key = string_bytes c.in_ok-clone.field-0 in
    let old = c.loop-name.set in
    let copy : key ≡ string_bytes c.name-item.result = c.in_ok-clone.ensures.cases in
    let turned : bytes_eq key q ≡ bytes_eq q (string_bytes c.name-item.result) =
    nat_list_eq_equiv.symm key q ∙ ap (bytes_eq q) copy in
    btree_set_updates_text key old c.insert.new.self true c.in_ok-insert.ensures.updates q
    ∙ has_more (bytes_eq key q) (contains_text old q)
    ∙ (λ i. c.loop-name.invariant q i || turned i)
    ∙ sym (among_more c.args.names.now c.loop-name.name-index c.name-item.result q
    (omega (arith, c.loop-name-test.true)) c.name-item.is)
