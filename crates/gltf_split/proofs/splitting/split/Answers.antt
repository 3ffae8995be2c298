use Rattle.std.proofs.Common.{Result, Ok, Err}
use Rattle.std.specs.Prelude.{IfOk, string_bytes}
use Rattle.gltf_required.specs.Left.{valid_of}
use Rattle.gltf_required.specs.declared.required.Required.TheVariants.{Supported}
use Rattle.gltf_split.specs.Splits.{IsValidText, IsValidTextAs}
use Rattle.gltf_split.specs.declared.splitting.Pieces.{Pieces}
use Rattle.gltf_split.proofs.splitting.split.Goals as goal

-- what is valid with no further extension is valid
valid : {E : Type 0} (r : Result Pieces E)
    → IfOk r (λ set. IsValidTextAs Supported (string_bytes set.json))
    → IfOk r (λ set. IsValidText (string_bytes set.json))
valid (Ok set) is = (is.0, is.1, valid_of (string_bytes set.json) is.0 is.1 is.2)
valid (Err e) is = tt

pub returns-clause-accepted : goal.returns-clause-accepted
returns-clause-accepted g c = valid c.split_with.result c.split_with.ensures.accepted
