use Rattle.std.proofs.Common.{◌≡◌, ℕ, ◌-◌, ◌*◌, List, length, take, drop, Some, ap, ◌∙◌, sym, arith}
use Rattle.std.proofs.Common.{rules}
use Rattle.std.proofs.lemmas.List.{take_all, length-drop}
use Rattle.std.proofs.lemmas.Grind.{common_steps}
use Rattle.gltf_items.proofs.Lefts.{left_within, slice_get-left}
use Rattle.gltf_items.proofs.item_iter.ItemIter.at.Goals as goal

pub overflow_mul-index : goal.overflow_mul-index
overflow_mul-index g c = let within =
    left_within c.args.self.now g.met.T.Item.positive c.args.index c.requires in
    search (rules, within)

pub slice_bounds-from_slice-count : goal.slice_bounds-from_slice-count
slice_bounds-from_slice-count g c =
    omega (arith, left_within c.args.self.now g.met.T.Item.positive c.args.index c.requires)

pub slice_bounds-from_slice-start : goal.slice_bounds-from_slice-start
slice_bounds-from_slice-start g c = let within =
    left_within c.args.self.now g.met.T.Item.positive c.args.index c.requires in
    search (rules, within)

pub from_slice-requires-clause-room : goal.from_slice-requires-clause-room
from_slice-requires-clause-room g c = let within =
    left_within c.args.self.now g.met.T.Item.positive c.args.index c.requires in
    grind (arith, common_steps, within)

pub returns : goal.returns
returns g c =
    let part : List ℕ = drop (c.args.index * c.args.self.now.stride) c.args.self.now.bytes.now in
    let whole : take (length c.args.self.now.bytes.now - c.args.index * c.args.self.now.stride) part
    ≡ part = take_all _ part (omega (
      arith,
      length-drop (c.args.index * c.args.self.now.stride) c.args.self.now.bytes.now,
    )) in
    slice_get-left c.args.self.now g.met.T.Item.positive c.args.index c.requires
    ∙ ap Some (ap g.T.Item.value (sym whole) ∙ sym c.from_slice.ensures)
