-- Laws of errors that name the fault of a buffer.
use Rattle.gltf_glb.specs.declared.error.Error.{Error}
use Rattle.gltf_glb.specs.declared.error.Error.TheVariants.{Base64, Binary, BufferLength}
use Rattle.gltf_glb.specs.declared.error.Error.TheVariants.{Deserialize, Io, MissingBlob}
use Rattle.gltf_glb.specs.declared.error.Error.TheVariants.{ExternalReferenceInSliceImport}
use Rattle.gltf_glb.specs.declared.error.Error.TheVariants.{UnsupportedScheme, Validation, Memory}
use Rattle.gltf_buffers.specs.Buffers.{BufferFault, BadPayload, NoBlob, External, NoScheme}
use Rattle.gltf_buffers.specs.Buffers.{TooShort}
use Rattle.gltf_buffers.specs.Errors.{NamesFault}

-- where each fault that P has is one that Q has, an error names one of Q
pub names_more : (P Q : BufferFault → Type 0) (e : Error)
    → ((fault : BufferFault) → P fault → Q fault) → NamesFault P e → NamesFault Q e
names_more P Q (Base64 cause) more told = more _ told
names_more P Q (Binary cause) more told = told
names_more P Q (BufferLength buffer expected actual) more told = more _ told
names_more P Q (Deserialize cause) more told = told
names_more P Q (Io cause) more told = told
names_more P Q MissingBlob more told = more _ told
names_more P Q ExternalReferenceInSliceImport more told = more _ told
names_more P Q UnsupportedScheme more told = more _ told
names_more P Q (Validation faults) more told = told
names_more P Q Memory more told = told

-- the fault of P that an error names
pub named_fault : (P : BufferFault → Type 0) (e : Error) → NamesFault P e
    → (fault : BufferFault) × P fault
named_fault P (Base64 cause) told = (BadPayload cause, told)
named_fault P (Binary cause) told = absurd told
named_fault P (BufferLength buffer expected actual) told = (TooShort buffer expected actual, told)
named_fault P (Deserialize cause) told = absurd told
named_fault P (Io cause) told = absurd told
named_fault P MissingBlob told = (NoBlob, told)
named_fault P ExternalReferenceInSliceImport told = (External, told)
named_fault P UnsupportedScheme told = (NoScheme, told)
named_fault P (Validation faults) told = absurd told
named_fault P Memory told = absurd told
