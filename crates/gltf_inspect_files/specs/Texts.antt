-- The code of what is wrong with a text or with a record in it, and where it stands (glTF 2.0,
-- sections 2.7 and 5).
use Rattle.std.specs.Prelude.{Bool, false, ◌||◌, if◌then◌else◌, List, [], ◌∷◌, bytes_eq, codes}
use Rattle.gltf_json_record.specs.Place.{Place, named, numbered, keyed}
use Rattle.gltf_json_record.specs.declared.error.Error as json
use Rattle.gltf_json_record.specs.declared.error.Error.TheVariants.{Text, Record, Memory}
use Rattle.gltf_json_record.specs.declared.error.RecordFault.{RecordFault}
use Rattle.gltf_json_record.specs.declared.error.RecordFault.TheVariants.{MissingMember, WrongKind}
use Rattle.gltf_inspect.specs.Refusals.{last_of}
use Rattle.gltf_findings.specs.declared.code.Code.{Code}
use Rattle.gltf_findings.specs.declared.code.Code.TheVariants as code

-- what is of another type than the standard gives it: an element of a list, or a member
abbrev pub kind_code : Place → Code
kind_code (named name) = code.TypeMismatch
kind_code (numbered i) = code.ArrayTypeMismatch
kind_code (keyed name) = code.TypeMismatch

-- the members that the standard lets be absent, and that are in every record that is loaded: the
-- source of a texture (section 5.29.2), and the node of a channel's target (section 5.7.1), which an
-- extension may stand for. No other member that has to be there has one of these names
abbrev pub is_needed_here : Place → Bool
is_needed_here (named name) = bytes_eq name (codes "source") || bytes_eq name (codes "node")
is_needed_here (numbered i) = false
is_needed_here (keyed name) = false

-- the code of an absent member: one that the standard asks for, or one that this reader alone needs
abbrev pub absent_code : Place → Code
absent_code step = if is_needed_here step then code.NeededByReader else code.UndefinedProperty

-- the code of what is wrong with a record, by the last step to where it stands; the whole is no
-- element of a list
abbrev pub record_code : Place → RecordFault → Code
record_code step MissingMember = absent_code step
record_code step WrongKind = kind_code step

-- what is found in a text, by the error of its reading: out of memory is nothing that is found
abbrev pub text_findings : json.Error → List (List Place × Code)
text_findings (Text cause) = ([], code.InvalidJson) ∷ []
text_findings (Record path fault) = (path, record_code (last_of (named []) path) fault) ∷ []
text_findings Memory = []
