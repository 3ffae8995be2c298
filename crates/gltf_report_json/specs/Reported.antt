-- The tokens of a report as JSON, with the members of each object in the order of their names.
use Rattle.std.specs.Prelude.{◌≡◌, ℕ, ◌==◌, List, [], ◌∷◌, ◌++◌, Bool, false, not, length, map}
use Rattle.std.specs.Prelude.{codes, decimal, string_bytes, String, vec_len, if◌then◌else◌}
use Rattle.std.specs.Prelude.{Option, Some, None, is_some}
use Rattle.std.specs.declared.alloc.Global.{Global}
use Rattle.json.specs.Token.{Token, begin_object, end_object, begin_array, end_array, key, string}
use Rattle.json.specs.Token.{number, boolean}
use Rattle.json.specs.Print.{print}
use Rattle.json.specs.Layout.{pretty}
use Rattle.gltf_json_record.specs.Place.{Place}
use Rattle.gltf_json_record.specs.Pointer.{pointer_text}
use Rattle.gltf_json.specs.declared.root.Root.{Root}
use Rattle.gltf_findings.specs.declared.code.Code.{Code}
use Rattle.gltf_findings.specs.declared.code.Severity.TheVariants as grave
use Rattle.gltf_findings.specs.Codes.{code_text, severity, severity_number}
use Rattle.gltf_findings.specs.Reports.{count_of}
use Rattle.gltf_messages.specs.Messages.{IsSaidOf}
use Rattle.gltf_report_json.specs.Held.{in_64_bits, primitive_count, total_vertex_count}
use Rattle.gltf_report_json.specs.Held.{has_morph_targets}

-- a member of an object: its name and its value
abbrev pub text_member : List ℕ → List ℕ → List Token
text_member name text = key name ∷ string text ∷ []

abbrev pub number_member : List ℕ → ℕ → List Token
number_member name n = key name ∷ number (decimal n) ∷ []

abbrev pub flag_member : List ℕ → Bool → List Token
flag_member name flag = key name ∷ boolean flag ∷ []

-- a list of names; none where there are no names
abbrev pub names_member : List ℕ → List (String Global) → List Token
names_member name names =
    if length names == 0 then []
    else key name ∷ begin_array ∷ (map (λ s. string (string_bytes s)) names ++ end_array ∷ [])

-- a finding of this code at the place of this pointer, and what its message says
abbrev pub message_tokens : Code → List ℕ → List ℕ → List Token
message_tokens code pointer says =
    begin_object
    ∷ (text_member (codes "code") (code_text code)
    ++ (text_member (codes "message") says
    ++ (text_member (codes "pointer") pointer
    ++ (number_member (codes "severity") (severity_number (severity code)) ++ end_object ∷ []))))

-- the messages of the findings, one of each, in order
abbrev pub AreMessages : List (List Place × Code) → List Token → Type 0
AreMessages [] tokens = tokens ≡ []
AreMessages (f ∷ fs) tokens =
    (says : List ℕ) × (rest : List Token) × IsSaidOf f.1 says
    × (tokens ≡ message_tokens f.1 (pointer_text f.0) says ++ rest) × AreMessages fs rest

-- how many findings of each severity there are
abbrev pub count_members : List (List Place × Code) → List Token
count_members found =
    number_member (codes "numErrors") (count_of grave.Error found)
    ++ (number_member (codes "numHints") (count_of grave.Hint found)
    ++ (number_member (codes "numInfos") (count_of grave.Information found)
    ++ number_member (codes "numWarnings") (count_of grave.Warning found)))

-- the messages and their numbers
abbrev pub issues_tokens : List (List Place × Code) → List Token → List Token
issues_tokens found messages =
    begin_object ∷ key (codes "messages") ∷ begin_array
    ∷ (messages ++ end_array
    ∷ (count_members found ++ (flag_member (codes "truncated") false ++ end_object ∷ [])))

abbrev pub generator_member : Option (String Global) → List Token
generator_member None = []
generator_member (Some text) = text_member (codes "generator") (string_bytes text)

-- the members before those that are true or false
abbrev pub front_members : Root → List Token
front_members root =
    number_member (codes "animationCount") (vec_len root.animations)
    ++ (number_member (codes "drawCallCount") (in_64_bits (primitive_count root))
    ++ (names_member (codes "extensionsRequired") root.extensions_required.items
    ++ (names_member (codes "extensionsUsed") root.extensions_used.items
    ++ generator_member root.asset.generator)))

-- those that are true or false
abbrev pub flag_members : Root → List Token
flag_members root =
    flag_member (codes "hasDefaultScene") (is_some root.scene)
    ++ (flag_member (codes "hasMorphTargets") (has_morph_targets root)
    ++ (flag_member (codes "hasSkins") (not (vec_len root.skins == 0))
    ++ flag_member (codes "hasTextures") (not (vec_len root.textures == 0))))

-- what a document holds
abbrev pub info_tokens : Root → List Token
info_tokens root =
    begin_object
    ∷ (front_members root
    ++ (flag_members root
    ++ (number_member (codes "materialCount") (vec_len root.materials)
    ++ (number_member (codes "totalVertexCount") (in_64_bits (total_vertex_count root))
    ++ (text_member (codes "version") (string_bytes root.asset.version) ++ end_object ∷ [])))))

-- the member `info`, where there is a document
abbrev pub info_member : Option Root → List Token
info_member None = []
info_member (Some root) = key (codes "info") ∷ info_tokens root

-- the report of the file of this name
abbrev pub report_tokens : List ℕ → List (List Place × Code) → Option Root → List Token → List Token
report_tokens name found root messages =
    begin_object
    ∷ (info_member root ++ key (codes "issues")
    ∷ (issues_tokens found messages
    ++ (text_member (codes "uri") name
    ++ (text_member (codes "validatorVersion") (codes "gltf_inspect 1") ++ end_object ∷ []))))

abbrev pub IsReport : List ℕ → List (List Place × Code) → Option Root → List Token → Type 0
IsReport name found root tokens =
    (messages : List Token) × AreMessages found messages
    × (tokens ≡ report_tokens name found root messages)

-- its text, on several lines or on one
abbrev pub IsReportText : Bool → List ℕ → List (List Place × Code) → Option Root → List ℕ → Type 0
IsReportText is_pretty name found root text =
    (tokens : List Token) × IsReport name found root tokens
    × (text ≡ (if is_pretty then pretty tokens else print tokens))
