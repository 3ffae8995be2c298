-- Names of extensions, by their texts, and which of them stand in a list.
use Rattle.std.specs.Prelude.{ℕ, List, String, map, filter, string_bytes, not}
use Rattle.std.specs.declared.alloc.Global.{Global}
use Rattle.gltf_json_record.specs.Member.{is_one_of}

abbrev pub texts : List (String Global) → List (List ℕ)
texts names = map string_bytes names

-- those that are in the list, in their order
abbrev pub taken_of : List (List ℕ) → List (List ℕ) → List (List ℕ)
taken_of also names = filter (λ name. is_one_of also name) names

-- those that are not, in their order
abbrev pub left_of : List (List ℕ) → List (List ℕ) → List (List ℕ)
left_of also names = filter (λ name. not (is_one_of also name)) names
