-- Why a file is refused, as C sees it.
use Rattle.std.specs.Prelude.{◌≡◌, ℕ, min, List, [], ◌∷◌, length, replicate, codes}
use Rattle.std.specs.Prelude.{Option, Some, None, unwrap_or}
use Rattle.gltf_glb.specs.declared.error.Error.{Error}
use Rattle.gltf_glb.specs.declared.error.Error.TheVariants.{Base64, Binary, BufferLength}
use Rattle.gltf_glb.specs.declared.error.Error.TheVariants.{Deserialize, Io, Validation, Memory}
use Rattle.gltf_glb.specs.declared.error.Error.TheVariants.{MissingBlob, UnsupportedScheme}
use Rattle.gltf_glb.specs.declared.error.Error.TheVariants.{ExternalReferenceInSliceImport}
use Rattle.gltf_json_record.specs.Place.{Place, named, numbered}
use Rattle.gltf_json_record.specs.Pointer.{pointer_text}
use Rattle.gltf_json_record.specs.declared.error.Error as record_error
use Rattle.gltf_json_record.specs.declared.error.Error.TheVariants as json
use Rattle.gltf_validation.specs.declared.error.Error as validation
use Rattle.gltf_c_fault.specs.Message.{text_in_room, Tells}
use Rattle.gltf_c_fault.specs.Status.{code, status_of}
use Rattle.gltf_c_fault.specs.declared.status.Status.{Status}
use Rattle.gltf_c_fault.specs.declared.status.Status.TheVariants.{BadExtension, BadArgument}
use Rattle.gltf_c_fault.specs.declared.fault.GltfFault.{GltfFault}
use Rattle.gltf_c_fault.specs.declared.fault.Numbers.{Numbers}
use Rattle.gltf_c_fault.specs.declared.fault.TheConstants.{NONE}

-- no fault: all is 0, and no buffer is named
abbrev pub no_fault : GltfFault
no_fault = record {
  status = 0;
  rules = 0;
  buffer = NONE;
  expected = 0;
  actual = 0;
  reserved = replicate 4 0;
  path = replicate 128 0;
  text = replicate 512 0;
}

-- how many rules a document breaks, as far as 32 bits have room for it
abbrev pub rules_of : Error → ℕ
rules_of (Validation broken) = min (length broken.items) 4294967295
rules_of (Base64 cause) = 0
rules_of (Binary cause) = 0
rules_of (BufferLength buffer expected actual) = 0
rules_of (Deserialize cause) = 0
rules_of (Io cause) = 0
rules_of MissingBlob = 0
rules_of ExternalReferenceInSliceImport = 0
rules_of UnsupportedScheme = 0
rules_of Memory = 0

-- how many bytes a buffer declares that has fewer, and how many it has
abbrev pub no_numbers : Numbers
no_numbers = record { expected = 0; actual = 0 }

abbrev pub numbers_of : Error → Numbers
numbers_of (BufferLength buffer expected actual) = record {
  expected = expected;
  actual = actual;
}
numbers_of (Validation broken) = no_numbers
numbers_of (Base64 cause) = no_numbers
numbers_of (Binary cause) = no_numbers
numbers_of (Deserialize cause) = no_numbers
numbers_of (Io cause) = no_numbers
numbers_of MissingBlob = no_numbers
numbers_of ExternalReferenceInSliceImport = no_numbers
numbers_of UnsupportedScheme = no_numbers
numbers_of Memory = no_numbers

-- where the first of the broken rules is broken
abbrev pub first_place : List (List Place × validation.Error) → List Place
first_place [] = []
first_place (fault ∷ faults) = fault.0

-- where a record is not of the form that the format gives it
abbrev pub record_place : record_error.Error → List Place
record_place (json.Text cause) = []
record_place (json.Record path fault) = path
record_place json.Memory = []

-- the part of the document that is at fault, where it is no buffer; the whole of it where no part
-- is known
abbrev pub place_in : Error → List Place
place_in (Validation broken) = first_place broken.items
place_in (Deserialize cause) = record_place cause
place_in (BufferLength buffer expected actual) = []
place_in (Base64 cause) = []
place_in (Binary cause) = []
place_in (Io cause) = []
place_in MissingBlob = []
place_in ExternalReferenceInSliceImport = []
place_in UnsupportedScheme = []
place_in Memory = []

-- a buffer, and its URI (glTF 2.0, section 5.10)
abbrev pub buffer_place : ℕ → List Place
buffer_place i = named (codes "buffers") ∷ numbered i ∷ []

abbrev pub uri_place : ℕ → List Place
uri_place i = named (codes "buffers") ∷ numbered i ∷ named (codes "uri") ∷ []

-- the part of a buffer that is at fault: its URI, or the whole of it
abbrev pub part_of : Error → ℕ → List Place
part_of (Base64 cause) i = uri_place i
part_of ExternalReferenceInSliceImport i = uri_place i
part_of UnsupportedScheme i = uri_place i
part_of (BufferLength buffer expected actual) i = buffer_place i
part_of MissingBlob i = buffer_place i
part_of (Validation broken) i = buffer_place i
part_of (Deserialize cause) i = buffer_place i
part_of (Binary cause) i = buffer_place i
part_of (Io cause) i = buffer_place i
part_of Memory i = buffer_place i

-- the part of the document that is at fault
abbrev pub place_of : Error → Option ℕ → List Place
place_of e None = place_in e
place_of e (Some i) = part_of e i

-- what is said of an error, which may be that of a buffer
pub record IsFault (e : Error) (buffer' : Option ℕ) (f : GltfFault) : Type 0 where
  pub status : f.status ≡ code (status_of e)
  pub rules : f.rules ≡ rules_of e
  pub buffer : f.buffer ≡ unwrap_or buffer' NONE
  pub expected : f.expected ≡ (numbers_of e).expected
  pub actual : f.actual ≡ (numbers_of e).actual
  pub reserved : f.reserved ≡ replicate 4 0
  pub path : f.path ≡ text_in_room (pointer_text (place_of e buffer')) (replicate 128 0)
  pub text : Tells e (replicate 512 0) f.text

-- what is said with a status: the place in the document, and the reason
abbrev pub reason_fault : Status → List Place → List ℕ → GltfFault
reason_fault status places reason = record {
  status = code status;
  rules = 0;
  buffer = NONE;
  expected = 0;
  actual = 0;
  reserved = replicate 4 0;
  path = text_in_room (pointer_text places) (replicate 128 0);
  text = text_in_room reason (replicate 512 0);
}

-- what is said of an extension at fault
abbrev pub extension_fault : List Place → List ℕ → GltfFault
extension_fault places reason = reason_fault BadExtension places reason

-- what is said of options of which a flag is not known, or a reserved member is not 0
abbrev pub argument_fault : GltfFault
argument_fault =
    reason_fault BadArgument []
    (codes "an unknown flag, or a reserved member that is not 0")
