use Rattle.std.proofs.Common.{ℕ, Result, Ok, Err, Vec, Global}
use Rattle.std.specs.Prelude.{IfOk}
use Rattle.gltf_buffers.specs.Names.{Nowhere}
use Rattle.gltf_required.specs.Left.{accepted_of}
use Rattle.gltf_required.specs.declared.required.Required.TheVariants.{Supported}
use Rattle.gltf_bundle.specs.Bundle.{IsAccepted, IsAcceptedAs}
use Rattle.gltf_bundle.proofs.bundling.bundle.Goals as goal

-- what is accepted with no further extension is accepted
accepted : {E : Type 0} (r : Result (Vec ℕ Global) E)
    → IfOk r (λ answer. IsAcceptedAs Supported answer.items)
    → IfOk r (λ answer. IsAccepted answer.items)
accepted (Ok answer) is = (is.0, is.1, accepted_of Nowhere answer.items is.0 is.1 is.2)
accepted (Err e) is = tt

pub returns-clause-accepted : goal.returns-clause-accepted
returns-clause-accepted g c = accepted c.bundle_with.result c.bundle_with.ensures.accepted
