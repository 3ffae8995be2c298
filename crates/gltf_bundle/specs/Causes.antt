-- The errors that causes become.
use Rattle.gltf_edit.specs.declared.fault.Fault.{Fault}
use Rattle.gltf_edit.specs.declared.fault.Fault.TheVariants as fault
use Rattle.gltf_glb.specs.declared.error.Error.TheVariants.{Memory}
use Rattle.gltf_bundle.specs.declared.error.BundleError.{BundleError}
use Rattle.gltf_bundle.specs.declared.error.BundleError.TheVariants.{Import, View, TooLong, Answer}
use Rattle.gltf_glb.specs.declared.error.Error.{Error}
use Rattle.std.specs.Prelude.{Bool, true, false}

abbrev pub of_fault : Fault → BundleError
of_fault (fault.Outside view) = View view
of_fault fault.TooLong = TooLong
of_fault fault.Memory = Import Memory

abbrev pub is_memory : Error → Bool
is_memory Memory = true
is_memory e = false

-- why what was made is not taken
abbrev pub of_answer : Error → BundleError
of_answer Memory = Import Memory
of_answer e = Answer e
