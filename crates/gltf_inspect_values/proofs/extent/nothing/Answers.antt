use Rattle.std.proofs.Common.{refl}
use Rattle.std.specs.Float.Ieee.{of_bits, of_fields}
use Rattle.gltf_inspect_values.proofs.extent.nothing.Goals as goal

pub returns : goal.returns
unfolding of_bits of_fields
returns c = refl
