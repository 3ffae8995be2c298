-- What was written is given, with its status.
use Rattle.std.proofs.Common.{◌≡◌, Bool, ap}
use Rattle.std.specs.Prelude.{Option, Some, None}
use Rattle.gltf_c_look.specs.Written.{IsWritten}
use Rattle.gltf_c_handle.specs.Given.{IsGiven, status_of}

pub written_is_given : {X : Type 0} (asked : Option X) (answer : Bool) (old new : X)
    → IsWritten asked answer old new → IsGiven asked (status_of answer) old new
written_is_given None answer old new h = (ap status_of h.0, h.1)
written_is_given (Some x) answer old new h = (ap status_of h.0, h.1)
