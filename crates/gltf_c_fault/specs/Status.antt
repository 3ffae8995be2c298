-- What calls answer, and the number that C sees of it.
use Rattle.std.specs.Prelude.{ℕ}
use Rattle.gltf_glb.specs.declared.error.Error.{Error}
use Rattle.gltf_glb.specs.declared.error.Error.TheVariants.{Base64, Binary, BufferLength}
use Rattle.gltf_glb.specs.declared.error.Error.TheVariants.{Deserialize, Io, Validation, Memory}
use Rattle.gltf_glb.specs.declared.error.Error.TheVariants as refusal
use Rattle.gltf_c_fault.specs.declared.status.Status.{Status}
use Rattle.gltf_c_fault.specs.declared.status.Status.TheVariants.{Success, NoMemory, BadContainer}
use Rattle.gltf_c_fault.specs.declared.status.Status.TheVariants.{BadJson, BrokenRules, BadBase64}
use Rattle.gltf_c_fault.specs.declared.status.Status.TheVariants.{ShortBuffer, MissingBlob}
use Rattle.gltf_c_fault.specs.declared.status.Status.TheVariants.{ExternalReference}
use Rattle.gltf_c_fault.specs.declared.status.Status.TheVariants.{UnsupportedScheme}
use Rattle.gltf_c_fault.specs.declared.status.Status.TheVariants.{InputOutput, Closed, NoSuchIndex}
use Rattle.gltf_c_fault.specs.declared.status.Status.TheVariants.{Unreadable, NoRoom}
use Rattle.gltf_c_fault.specs.declared.status.Status.TheVariants.{BadExtension, BadArgument}

-- the number that C sees
abbrev pub code : Status → ℕ
code Success = 0
code NoMemory = 1
code BadContainer = 2
code BadJson = 3
code BrokenRules = 4
code BadBase64 = 5
code ShortBuffer = 6
code MissingBlob = 7
code ExternalReference = 8
code UnsupportedScheme = 9
code InputOutput = 10
code Closed = 11
code NoSuchIndex = 12
code Unreadable = 13
code NoRoom = 14
code BadExtension = 17
code BadArgument = 18

-- each layer that may refuse bytes has statuses of its own: the container, the text and the records
-- in it, the rules, and the buffers
abbrev pub status_of : Error → Status
status_of Memory = NoMemory
status_of (Binary cause) = BadContainer
status_of (Deserialize cause) = BadJson
status_of (Validation faults) = BrokenRules
status_of (Base64 fault) = BadBase64
status_of (BufferLength buffer expected actual) = ShortBuffer
status_of refusal.MissingBlob = MissingBlob
status_of refusal.ExternalReferenceInSliceImport = ExternalReference
status_of refusal.UnsupportedScheme = UnsupportedScheme
status_of (Io cause) = InputOutput
