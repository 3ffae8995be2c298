-- Numbers of members as C sees them.
use Rattle.std.specs.Prelude.{Float, Option, unwrap_or}
use Rattle.serde_json.specs.declared.value.Value.{Value}
use Rattle.gltf_numbers.specs.Numbers.{number_or}

-- the number of a member; the default where it is absent or no number
abbrev pub number_else : Float → Option Value → Float
number_else default member = unwrap_or (number_or default member) default
