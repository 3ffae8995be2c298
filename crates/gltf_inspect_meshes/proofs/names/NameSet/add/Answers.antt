use Rattle.std.proofs.Common.{◌≡◌, ◌||◌, ◌∙◌, ap, true, string_bytes}
use Rattle.std.specs.Prelude.{bytes_eq}
use Rattle.std.specs.BTreeSet.{contains_text}
use Rattle.std.proofs.lemmas.Cmp.{nat_list_eq_equiv}
use Rattle.std.proofs.lemmas.Map.Text.{btree_set_updates_text}
use Rattle.gltf_inspect_meshes.proofs.Among.{has_more}
use Rattle.gltf_inspect_meshes.proofs.names.NameSet.add.Goals as goal

pub returns-clause-now : goal.returns-clause-now
returns-clause-now c = λ q.
    let key = string_bytes c.in_ok-clone.field-0 in
    let old = c.args.self.now.names in
    let copy : key ≡ string_bytes c.args.name.now = c.in_ok-clone.ensures.cases in
    let turned : bytes_eq key q ≡ bytes_eq q (string_bytes c.args.name.now) =
    nat_list_eq_equiv.symm key q ∙ ap (bytes_eq q) copy in
    btree_set_updates_text key old c.insert.new.self true c.in_ok-insert.ensures.updates q
    ∙ has_more (bytes_eq key q) (contains_text old q)
    ∙ (λ i. contains_text old q || turned i)
