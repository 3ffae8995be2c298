use Rattle.std.proofs.Common.{Some, option_map, ap, sym, ◌∙◌}
use Rattle.std.specs.Prelude.{string_bytes}
use Rattle.std.specs.BTreeMap.{get_by_text}
use Rattle.std.specs.Str.{bytes_eq}
use Rattle.std.proofs.lemmas.Map.Text.{btree_map_updates_text}
use Rattle.std.proofs.lemmas.Slice.Eq.{bytes_eq-Decides}
use Rattle.gltf_shared.specs.Given.{given_bytes}
use Rattle.gltf_shared.proofs.Given.{chosen_same, chosen_other, not_equal}
use Rattle.gltf_shared.proofs.held.put.Goals as goal

pub returns-clause-same : goal.returns-clause-same
returns-clause-same c =
    let text = string_bytes c.in_ok-text.text in
    ap (option_map given_bytes)
    (btree_map_updates_text text c.args.held.now c.insert.new.self (Some c.args.given)
    c.in_ok-insert.ensures.updates c.args.text.now)
    ∙ chosen_same (bytes_eq text c.args.text.now) c.args.given
    (get_by_text c.args.held.now c.args.text.now)
    ((bytes_eq-Decides text c.args.text.now).1 c.in_ok-text.ensures.ok)

pub returns-clause-others : goal.returns-clause-others
returns-clause-others c = λ other ne.
    let text = string_bytes c.in_ok-text.text in
    ap (option_map given_bytes)
    (btree_map_updates_text text c.args.held.now c.insert.new.self (Some c.args.given)
    c.in_ok-insert.ensures.updates other)
    ∙ chosen_other (bytes_eq text other) c.args.given (get_by_text c.args.held.now other)
    (not_equal (bytes_eq text other) (bytes_eq-Decides text other).0
    (λ e. ne (sym e ∙ c.in_ok-text.ensures.ok)))
