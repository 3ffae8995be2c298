-- Which rules a document breaks for a caller who handles the extensions of a list (glTF 2.0,
-- section 3.12), each at its place in the file.
use Rattle.std.specs.Prelude.{◌≡◌, ◌≢◌, ℕ, Bool, false, not, if◌then◌else◌, bytes_eq, codes}
use Rattle.std.specs.Prelude.{List, [], ◌∷◌, filter, slice_get}
use Rattle.std.specs.Prelude.{Option, Some, None, option_and_then}
use Rattle.std.specs.Option.{option_map_or}
use Rattle.gltf_glb.specs.declared.error.Error.{Error}
use Rattle.gltf_glb.specs.declared.error.Error.TheVariants.{Validation}
use Rattle.gltf_json_record.specs.Member.{is_one_of}
use Rattle.gltf_json_record.specs.Place.{Place, named, numbered}
use Rattle.gltf_json.specs.declared.root.Root.{Root}
use Rattle.gltf_validation.specs.Documents.{Faults}
use Rattle.gltf_validation.specs.declared.error.Error as broken
use Rattle.gltf_options.specs.Besides.{required_of}

-- a broken rule: where it stands, and what is wrong there
abbrev pub Fault : Type 0
Fault = List Place × broken.Error

-- the index in `extensionsRequired` of the name at a place
abbrev pub required_index : List Place → Option ℕ
required_index (named member ∷ numbered i ∷ []) =
    if bytes_eq member (codes "extensionsRequired") then Some i else None
required_index _ = None

-- at the place stands a required name of the list
abbrev pub is_listed_at : List (List ℕ) → List (List ℕ) → List Place → Bool
is_listed_at also required place =
    option_map_or (is_one_of also) (option_and_then (slice_get required) (required_index place))
    false

-- all rules that the file breaks, in their order, but those of the names of the list
abbrev pub faults_besides : List (List ℕ) → Root → List Fault
faults_besides also r = filter (λ f. not (is_listed_at also (required_of r) f.0)) (Faults r)

-- these are some; the error has all of them
abbrev pub RefusesBesides : List (List ℕ) → Root → Error → Type 0
RefusesBesides also r (Validation faults) =
    (faults.items ≡ faults_besides also r) × (faults_besides also r ≢ [])
RefusesBesides also r _ = ⊥
