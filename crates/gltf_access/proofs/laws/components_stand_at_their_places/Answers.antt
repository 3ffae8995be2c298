use Rattle.std.proofs.Common.{ℕ, ◌*◌, take, drop, ap, ◌∙◌, arith}
use Rattle.gltf_access.specs.Components.{components, step}
use Rattle.gltf_access.proofs.Placed.{row_at, row_within, place_of}
use Rattle.gltf_access.proofs.laws.components_stand_at_their_places.Goals as goal

pub returns : goal.returns
returns c l component rows row column bytes is within there room =
    ap (λ (n : ℕ). take component (drop n (components l bytes)))
    (place_of column rows row component l.column is)
    ∙ row_at l.columns (step l) l.column column (row * component) component bytes there
    (row_within row rows component l.column within is) (omega arith) room
