use Rattle.std.proofs.Common.{subst, sym}
use Rattle.gltf_inspect_items.specs.Found.{IsFound}
use Rattle.gltf_inspect_items.specs.Members.{members_left}
use Rattle.gltf_inspect_items.proofs.Decides.{found_in_same}
use Rattle.gltf_inspect_items.proofs.found.found_as.Goals as goal

pub returns : goal.returns
returns g c =
    subst (IsFound g.T.Number.number g.T.Number.most _) (sym c.found_in.ensures)
    (found_in_same g.T.Number.most g.T.Number.number (members_left c.members_at.result) _
    c.members_at.ensures)
