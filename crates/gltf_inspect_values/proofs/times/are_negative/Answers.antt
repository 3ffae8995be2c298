use Rattle.std.proofs.Common.{ap, sym, ◌∙◌, ◌&&◌, ◌||◌, ◌∷◌, []}
use Rattle.gltf_items.specs.Floats.{float_of}
use Rattle.gltf_inspect_items.specs.Reading.{items_left}
use Rattle.gltf_inspect_values.specs.Times.{is_negative}
use Rattle.gltf_inspect_values.proofs.Same.{negative_of}
use Rattle.gltf_inspect_values.proofs.times.are_negative.Goals as goal

pub returns : goal.returns
returns c =
    c.either.ensures
    ∙ ap (λ b. b || c.are_negative_in.result) c.zero_is_negative.ensures
    ∙ ap (λ b. (c.args.members.zero && is_negative (float_of (0 ∷ 0 ∷ 0 ∷ 0 ∷ []))) || b)
    c.are_negative_in.ensures
    ∙ sym (negative_of (0 ∷ 0 ∷ 0 ∷ 0 ∷ []) c.args.members.zero
    (items_left c.args.members.others))
