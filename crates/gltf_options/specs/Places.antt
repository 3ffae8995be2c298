-- Where the names stand that are left without those of a list, and the faults of what is left, at
-- the places of the file.
use Rattle.std.specs.Prelude.{◌≡◌, ◌≢◌, ℕ, not, codes, List, [], ◌∷◌, map, filter, slice_get}
use Rattle.std.specs.Prelude.{Option, option_and_then}
use Rattle.std.specs.List.{enumerate_from}
use Rattle.std.specs.Option.{option_map_or}
use Rattle.gltf_glb.specs.declared.error.Error.{Error}
use Rattle.gltf_glb.specs.declared.error.Error.TheVariants.{Validation}
use Rattle.gltf_json_record.specs.Member.{is_one_of}
use Rattle.gltf_json_record.specs.Place.{Place, named, numbered}
use Rattle.gltf_json.specs.declared.root.Root.{Root}
use Rattle.gltf_validation.specs.Documents.{Faults}
use Rattle.gltf_options.specs.Broken.{Fault, required_index}

-- where the names stand that are not in the list, in their order, counted from 0
abbrev pub places_left : List (List ℕ) → List (List ℕ) → List ℕ
places_left also required =
    map (λ p. p.0) (filter (λ p. not (is_one_of also p.1)) (enumerate_from 0 required))

-- the place of the name at an index of `extensionsRequired`
abbrev pub required_at : ℕ → List Place
required_at i = named (codes "extensionsRequired") ∷ numbered i ∷ []

-- the index in the file of the name at a place of the document without the names of the list, where
-- those that are left stand at these places of the file
abbrev pub index_in_file : List ℕ → List Place → Option ℕ
index_in_file places place = option_and_then (slice_get places) (required_index place)

-- a fault of that document, at its place in the file
abbrev pub in_file : List ℕ → Fault → Fault
in_file places f = (option_map_or required_at (index_in_file places f.0) f.0, f.1)

-- the error has all rules that the document breaks, which are some, at the places of the file
abbrev pub TellsRulesInFile : List ℕ → Root → Error → Type 0
TellsRulesInFile places r (Validation faults) =
    (faults.items ≡ map (in_file places) (Faults r)) × (Faults r ≢ [])
TellsRulesInFile places r _ = ⊥
