use Rattle.std.proofs.Common.{ℕ, List, sym, subst}
use Rattle.std.specs.Prelude.{◌↔◌, slice_get}
use Rattle.gltf_data.specs.Documents.{ReadsAt}
use Rattle.gltf_bundle.proofs.laws.items_are_kept.Goals as goal

pub returns : goal.returns
returns g c required names path keep answer is reading alike over s others accepted index result =
    let found = c.one_buffer.ensures required names path keep answer is reading over s others
    accepted in
    subst (λ (all : List (List ℕ)).
    ReadsAt g.T.Item is.root_ (slice_get is.buffers) index result
    ↔ ReadsAt g.T.Item s (slice_get all) index result) (sym found.1)
    (c.items_are_kept.ensures is.buffers is.images is.root_ s (found.0 alike) index result)
