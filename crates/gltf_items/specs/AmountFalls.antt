-- An amount is deeper than each one that it is made of.
use Rattle.std.specs.Prelude.{◌≤◌}
use Rattle.std.proofs.Common.{arith}
use Rattle.gltf_items.specs.declared.count.Made.{Made}
use Rattle.gltf_items.specs.declared.count.Made.TheVariants.{Zero, Next, Same, Above}
use Rattle.gltf_items.specs.declared.count.Amount.TheDeep.{deep-Made}
use Rattle.gltf_items.specs.Amount.{amount}

pub amount_falls : (m : Made) → deep-Made m ≤ (amount m).1
amount_falls Zero = omega arith
amount_falls (Next before) = omega arith
amount_falls (Same before) = omega arith
amount_falls (Above after before) = omega arith
