-- The extensions that are used in objects of which no record keeps them: "All extensions used in a
-- glTF asset MUST be listed in the top-level extensionsUsed array object" (glTF 2.0, section 3.12).
use Rattle.std.specs.Prelude.{ℕ, List, [], ◌∷◌, ◌++◌, Option, Some, None, codes}
use Rattle.serde_json.specs.Data.{Data, null, boolean, number, string, array, object}
use Rattle.serde_json.specs.Data.{Items, no_items, item}
use Rattle.gltf_json_record.specs.Member.{member_at, is_one_of}
use Rattle.gltf_findings.specs.Checks.{Checks}
use Rattle.gltf_inspect_unkept.specs.Parts.{Names, ChecksOf, at_checks, each_checks, both_checks}
use Rattle.gltf_inspect_unkept.specs.Parts.{extended}

-- a sparse part, its indices and its values (sections 5.2 to 5.4)
abbrev pub sparse : ChecksOf
sparse = both_checks extended (both_checks (at_checks (codes "indices") extended) (at_checks (codes "values") extended))

abbrev pub accessor : ChecksOf
accessor = at_checks (codes "sparse") sparse

-- a channel and its target (sections 5.6 and 5.7)
abbrev pub channel : ChecksOf
channel = both_checks extended (at_checks (codes "target") extended)

-- the channels of an animation, and its samplers (sections 5.5 and 5.8)
abbrev pub animation : ChecksOf
animation = both_checks (at_checks (codes "channels") (each_checks channel)) (at_checks (codes "samplers") (each_checks extended))

-- those of a document: first its accessors, then its animations
abbrev pub document : ChecksOf
document = both_checks (at_checks (codes "accessors") (each_checks accessor)) (at_checks (codes "animations") (each_checks animation))

-- a text
abbrev pub text_of : Data → List (List ℕ)
text_of null = []
text_of (boolean b) = []
text_of (number n) = []
text_of (string s) = s ∷ []
text_of (array ds) = []
text_of (object ms) = []

-- the texts of an array
abbrev pub items_texts : Items → List (List ℕ)
items_texts no_items = []
items_texts (item d ds) = text_of d ++ items_texts ds

abbrev pub array_texts : Data → List (List ℕ)
array_texts null = []
array_texts (boolean b) = []
array_texts (number n) = []
array_texts (string s) = []
array_texts (array ds) = items_texts ds
array_texts (object ms) = []

abbrev pub texts : Option Data → List (List ℕ)
texts None = []
texts (Some d) = array_texts d

-- the names that the value of a document declares
abbrev pub declared_by : Data → Names
declared_by d = is_one_of (texts (member_at (codes "extensionsUsed") d))

-- all of a document's value
abbrev pub unkept_checks : Data → Checks
unkept_checks d = document (declared_by d) d
