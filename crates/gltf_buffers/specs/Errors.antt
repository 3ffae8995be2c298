-- What an error says of a buffer, and of the names that were asked for.
use Rattle.std.specs.Prelude.{◌≡◌, ℕ, List, ◌∷◌, Option, None, IsSome}
use Rattle.gltf_glb.specs.declared.error.Error.{Error}
use Rattle.gltf_glb.specs.declared.error.Error.TheVariants.{Base64, BufferLength, MissingBlob}
use Rattle.gltf_glb.specs.declared.error.Error.TheVariants.{ExternalReferenceInSliceImport}
use Rattle.gltf_glb.specs.declared.error.Error.TheVariants.{UnsupportedScheme, Io, Memory}
use Rattle.gltf_names.specs.Named.{Named}
use Rattle.gltf_buffers.specs.Buffers.{BufferFault, BadPayload, NoBlob, External, NoScheme}
use Rattle.gltf_buffers.specs.Buffers.{TooShort}
use Rattle.gltf_buffers.specs.Names.{Names, Nowhere, CanBeAsked}

-- the error names a fault of a buffer that P has
abbrev pub NamesFault : (BufferFault → Type 0) → Error → Type 0
NamesFault P (Base64 fault) = P (BadPayload fault)
NamesFault P (BufferLength buffer expected actual) = P (TooShort buffer expected actual)
NamesFault P MissingBlob = P NoBlob
NamesFault P ExternalReferenceInSliceImport = P External
NamesFault P UnsupportedScheme = P NoScheme
NamesFault P _ = ⊥

-- the source failed at a name that Q has, and noted it; or the error names a fault that P has, and
-- nothing was noted
abbrev pub FailsOrNames : (BufferFault → Type 0) → (Named → Type 0) → List Named → List Named
    → Error → Type 0
FailsOrNames P Q old new (Io cause) = (name : Named) × Q name × (new ≡ name ∷ old)
FailsOrNames P Q old new Memory = new ≡ old
FailsOrNames P Q old new e = (new ≡ old) × NamesFault P e

-- why a name was not answered: the source failed, and noted it; no name can be asked for; or there
-- was not enough memory
abbrev pub IsUnanswered : Names → Named → List Named → List Named → Error → Type 0
IsUnanswered names name old new (Io cause) = CanBeAsked names × (new ≡ name ∷ old)
IsUnanswered names name old new ExternalReferenceInSliceImport = (names ≡ Nowhere) × (new ≡ old)
IsUnanswered names name old new Memory = new ≡ old
IsUnanswered names name old new _ = ⊥

-- there is no blob, or there is one and not enough memory for the zeros after it
abbrev pub IsNotTaken : Option (List ℕ) → Error → Type 0
IsNotTaken blob MissingBlob = blob ≡ None
IsNotTaken blob Memory = IsSome blob
IsNotTaken blob _ = ⊥
