use Rattle.std.proofs.Common.{ℕ, List, ◌∷◌, [], ◌++◌, take, refl, ap, ◌∙◌}
use Rattle.gltf_bundle.proofs.Written.{filled_pieces}
use Rattle.gltf_bundle.proofs.joining.put_filled.Goals as goal

pub returns : goal.returns
returns c =
    let p : ℕ = c.filling_of.result in
    let filling : List ℕ = take p (0 ∷ 0 ∷ 0 ∷ 0 ∷ 0 ∷ 0 ∷ 0 ∷ []) in
    c.in_ok-extend_from_slice-2.ensures.items
    ∙ ap (λ (t : List ℕ). t ++ filling) c.in_ok-extend_from_slice.ensures.items
    ∙ filled_pieces c.args.out.now.items c.args.bytes.now filling p c.filling_of.ensures refl
