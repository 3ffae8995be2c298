-- Lists of numbers that records hold (glTF 2.0, sections 5.1, 5.23 and 5.25).
use Rattle.std.specs.Prelude.{ℕ, List, [], ◌∷◌, Float, slice_get, Option, option_map}
use Rattle.std.specs.Option.{option_and_then}
use Rattle.serde_json.specs.declared.value.Value.{Value}
use Rattle.gltf_json.specs.declared.root.Root.{Root}
use Rattle.gltf_c_open.specs.declared.file.File.{File}
use Rattle.gltf_c_scene.specs.Values.{listed_numbers}
use Rattle.gltf_c_bytes.specs.declared.lists.NumberList.{NumberList}
use Rattle.gltf_c_bytes.specs.declared.lists.NumberList.TheVariants.{AccessorMin, AccessorMax}
use Rattle.gltf_c_bytes.specs.declared.lists.NumberList.TheVariants.{MeshWeights, NodeWeights}

-- the list of each number from 0 on
abbrev pub number_list_of : ℕ → Option NumberList
number_list_of number =
    slice_get (AccessorMin ∷ AccessorMax ∷ MeshWeights ∷ NodeWeights ∷ []) number

-- the member of the record at an index that is this list
abbrev pub member_in : NumberList → ℕ → Root → Option (Option Value)
member_in AccessorMin index r = option_map (λ a. a.min) (slice_get r.accessors.items index)
member_in AccessorMax index r = option_map (λ a. a.max) (slice_get r.accessors.items index)
member_in MeshWeights index r = option_map (λ m. m.weights) (slice_get r.meshes.items index)
member_in NodeWeights index r = option_map (λ n. n.weights) (slice_get r.nodes.items index)

abbrev pub member_of : ℕ → ℕ → Root → Option (Option Value)
member_of number index r =
    option_and_then (λ list. member_in list index r) (number_list_of number)

-- its numbers; none where it is absent, or no list of numbers
abbrev pub numbers_of : ℕ → ℕ → File → Option (List Float)
numbers_of number index file = option_map listed_numbers (member_of number index file.document)
