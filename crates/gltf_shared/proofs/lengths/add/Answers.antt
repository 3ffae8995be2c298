use Rattle.std.proofs.Common.{◌||◌, List, ℕ, Some, ap, ◌∙◌}
use Rattle.std.specs.Prelude.{string_bytes, is_some, bytes_eq}
use Rattle.std.specs.BTreeMap.{get_by_text}
use Rattle.std.proofs.lemmas.Cmp.{nat_list_eq_equiv}
use Rattle.std.proofs.lemmas.Map.Text.{btree_map_updates_text}
use Rattle.gltf_shared.specs.Lengths.{is_in}
use Rattle.gltf_shared.proofs.Counted.{one_more}
use Rattle.gltf_shared.proofs.lengths.add.Goals as goal

pub returns-clause-added : goal.returns-clause-added
returns-clause-added c = λ other.
    let text = string_bytes c.in_ok-key.key in
    let old = c.args.texts.now in
    ap is_some
    (btree_map_updates_text text old c.insert.new.self (Some tt) c.in_ok-insert.ensures.updates other)
    ∙ one_more (bytes_eq text other) (get_by_text old other)
    ∙ ap (λ b. b || is_in old other) (nat_list_eq_equiv.symm text other)
    ∙ ap (λ (t : List ℕ). bytes_eq other t || is_in old other) c.in_ok-key.ensures.ok
