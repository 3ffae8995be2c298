-- The rules of loading as checks: each broken one is found, where it stands.
use Rattle.std.specs.Prelude.{if◌then◌else◌, List, [], ◌∷◌, codes}
use Rattle.gltf_json.specs.declared.root.Root.{Root}
use Rattle.gltf_json_record.specs.Place.{Place, named, numbered, keyed}
use Rattle.std.specs.Prelude.{bytes_eq}
use Rattle.gltf_validation.specs.declared.error.Error.{Error}
use Rattle.gltf_validation.specs.declared.error.Error.TheVariants.{IndexOutOfBounds, Invalid}
use Rattle.gltf_validation.specs.declared.error.Error.TheVariants.{Missing, Oversize, Unsupported}
use Rattle.gltf_validation.specs.Documents.{counts_of, root_rules}
use Rattle.gltf_validation.specs.Rules as rules
use Rattle.gltf_findings.specs.declared.code.Code.{Code}
use Rattle.gltf_findings.specs.declared.code.Code.TheVariants as code
use Rattle.gltf_findings.specs.Checks.{Checks, Nothing, Condition, At, Both}

-- a value that is in no table, or an attribute that has no meaning
abbrev pub invalid_code : Place → Code
invalid_code (named name) = code.ValueNotInList
invalid_code (numbered i) = code.ValueNotInList
invalid_code (keyed name) = code.InvalidAttribute

-- which member is absent: the source of an image, its type, or another
abbrev pub missing_code : Place → Code
missing_code (named name) =
    if bytes_eq name (codes "uri") then code.OneOfMismatch
    else if bytes_eq name (codes "mimeType") then code.UnsatisfiedDependency
    else code.UndefinedProperty
missing_code (numbered i) = code.UndefinedProperty
missing_code (keyed name) = code.UndefinedProperty

-- the code of a broken rule, by the last step to where it stands
abbrev pub refusal_code : Place → Error → Code
refusal_code step IndexOutOfBounds = code.UnresolvedReference
refusal_code step Invalid = invalid_code step
refusal_code step Missing = missing_code step
refusal_code step Oversize = code.ValueNotInRange
refusal_code step Unsupported = code.RequiredExtension

-- rules as checks: the same conditions at the same places
abbrev pub refusals : Place → rules.Rules → Checks
refusals step rules.Nothing = Nothing
refusals step (rules.Condition holds error) = Condition holds (refusal_code step error)
refusals step (rules.At next below) = At next (refusals next below)
refusals step (rules.Both some others) = Both (refusals step some) (refusals step others)

-- those of a document
abbrev pub root_refusals : Root → Checks
root_refusals r = refusals (numbered 0) (root_rules (counts_of r) r)

-- the last step of a path
abbrev pub last_of : Place → List Place → Place
last_of step [] = step
last_of step (next ∷ path) = last_of next path

-- a broken rule as a finding
abbrev pub refusal : List Place × Error → List Place × Code
refusal f = (f.0, refusal_code (last_of (numbered 0) f.0) f.1)
