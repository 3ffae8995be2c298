use Rattle.std.specs.Prelude.{Some}
use Rattle.gltf_access.proofs.Views.{lent}
use Rattle.gltf_access.proofs.raw.spaced_bytes.Goals as goal

pub returns : goal.returns
returns g c =
    lent _ _ (Some c.in_ok-ask.field-0.now) c.in_ok-ask.ensures c.spaced_items.ensures
