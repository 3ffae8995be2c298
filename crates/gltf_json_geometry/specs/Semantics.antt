-- The names of attributes, and their order (glTF 2.0, section 3.7.2.1, "Meshes: Overview").
use Rattle.std.specs.Prelude.{◌≡◌, ◌^◌, ℕ, List, [], ◌∷◌, ◌++◌, Bool, true, nat_lt, IsTrue, codes}
use Rattle.std.specs.String.{string_bytes}
use Rattle.std.specs.Fmt.{decimal}
use Rattle.std.specs.Ordering.{nat_cmp}
use Rattle.std.specs.Cmp.Lexicographic.{slice_cmp}
use Rattle.std.specs.declared.cmp.Ordering.{Ordering}
use Rattle.gltf_json_geometry.specs.declared.semantic.Semantic.{Semantic}
use Rattle.gltf_json_geometry.specs.declared.semantic.Semantic.TheVariants.{Extras, Positions}
use Rattle.gltf_json_geometry.specs.declared.semantic.Semantic.TheVariants.{Normals, Tangents}
use Rattle.gltf_json_geometry.specs.declared.semantic.Semantic.TheVariants.{Colors, TexCoords}
use Rattle.gltf_json_geometry.specs.declared.semantic.Semantic.TheVariants.{Joints, Weights}

-- the name in JSON: the digits of a set's number are decimal, with no zero in front
abbrev pub semantic_name : Semantic → List ℕ
semantic_name (Extras name) = codes "_" ++ string_bytes name
semantic_name Positions = codes "POSITION"
semantic_name Normals = codes "NORMAL"
semantic_name Tangents = codes "TANGENT"
semantic_name (Colors set) = codes "COLOR_" ++ decimal set
semantic_name (TexCoords set) = codes "TEXCOORD_" ++ decimal set
semantic_name (Joints set) = codes "JOINTS_" ++ decimal set
semantic_name (Weights set) = codes "WEIGHTS_" ++ decimal set

-- the number of a set has 32 bits
abbrev pub is_numbered : Semantic → Bool
is_numbered (Extras name) = true
is_numbered Positions = true
is_numbered Normals = true
is_numbered Tangents = true
is_numbered (Colors set) = nat_lt set (2 ^ 32)
is_numbered (TexCoords set) = nat_lt set (2 ^ 32)
is_numbered (Joints set) = nat_lt set (2 ^ 32)
is_numbered (Weights set) = nat_lt set (2 ^ 32)

-- the attribute s has this name
abbrev pub Names : Semantic → List ℕ → Type 0
Names s name = IsTrue (is_numbered s) × (semantic_name s ≡ name)

-- where an attribute stands among the others: by its kind, then by its text or number
abbrev pub order_key : Semantic → List ℕ
order_key (Extras name) = 0 ∷ string_bytes name
order_key Positions = 1 ∷ []
order_key Normals = 2 ∷ []
order_key Tangents = 3 ∷ []
order_key (Colors set) = 4 ∷ set ∷ []
order_key (TexCoords set) = 5 ∷ set ∷ []
order_key (Joints set) = 6 ∷ set ∷ []
order_key (Weights set) = 7 ∷ set ∷ []

abbrev pub semantic_cmp : Semantic → Semantic → Ordering
semantic_cmp s t = slice_cmp nat_cmp (order_key s) (order_key t)
