-- A report: how many findings of each severity there are, and the report as a JSON value.
use Rattle.std.specs.Prelude.{ℕ, suc, if◌then◌else◌, ◌==◌, false, List, [], ◌∷◌, map, codes}
use Rattle.serde_json.specs.Data.{Data, string, number, boolean, array, object, Items}
use Rattle.serde_json.specs.Data.{no_members, member, unsigned}
use Rattle.serde_json.specs.View.{items_of}
use Rattle.gltf_json_record.specs.Place.{Place}
use Rattle.gltf_json_record.specs.Pointer.{pointer_text}
use Rattle.gltf_findings.specs.declared.code.Code.{Code}
use Rattle.gltf_findings.specs.declared.code.Severity.{Severity}
use Rattle.gltf_findings.specs.declared.code.Severity.TheVariants as grave
use Rattle.gltf_findings.specs.Codes.{code_text, sentence, severity, severity_number, may_refuse}

-- how many findings are of this severity
abbrev pub count_of : Severity → List (List Place × Code) → ℕ
count_of grave [] = 0
count_of grave (f ∷ fs) =
    if severity_number (severity f.1) == severity_number grave
    then suc (count_of grave fs) else count_of grave fs

-- how many findings say that a file may be one that is not loaded
abbrev pub refusal_count : List (List Place × Code) → ℕ
refusal_count [] = 0
refusal_count (f ∷ fs) = if may_refuse f.1 then suc (refusal_count fs) else refusal_count fs

-- a message, with its members in the order of their names
abbrev pub message_data : List Place × Code → Data
message_data f =
    object (member (codes "code") (string (code_text f.1))
    (member (codes "message") (string (sentence f.1))
    (member (codes "pointer") (string (pointer_text f.0))
    (member (codes "severity") (number (unsigned (severity_number (severity f.1)))) no_members))))

-- the messages, in order
abbrev pub messages_items : List (List Place × Code) → Items
messages_items found = items_of (map message_data found)

abbrev pub issues_data : List (List Place × Code) → Data
issues_data found =
    object (member (codes "messages") (array (messages_items found))
    (member (codes "numErrors") (number (unsigned (count_of grave.Error found)))
    (member (codes "numHints") (number (unsigned (count_of grave.Hint found)))
    (member (codes "numInfos") (number (unsigned (count_of grave.Information found)))
    (member (codes "numWarnings") (number (unsigned (count_of grave.Warning found)))
    (member (codes "truncated") (boolean false) no_members))))))

-- the report of the file of this name
abbrev pub report_data : List ℕ → List (List Place × Code) → Data
report_data uri found =
    object (member (codes "issues") (issues_data found)
    (member (codes "uri") (string uri)
    (member (codes "validatorVersion") (string (codes "gltf_inspect 1")) no_members)))
