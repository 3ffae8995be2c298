-- One more attribute.
use Rattle.std.specs.Prelude.{◌≡◌, ◌⊎◌, ◌++◌, ◌∷◌, ℕ, List, [], Some, map, string_bytes}
use Rattle.std.specs.BTreeMap.{Updates, IsOrdered}
use Rattle.gltf_json_geometry.specs.Semantics.{Names, semantic_cmp}
use Rattle.gltf_json_geometry.specs.declared.semantic.Semantic.{Semantic}
use Rattle.gltf_json_geometry.specs.declared.attributes.Attributes.{Attributes}

-- b is a, and the attribute s has the index i
pub record IsKnownPut (name : List ℕ) (i : ℕ) (a b : Attributes) : Type 0 where
  pub semantic : Semantic
  pub named : Names semantic name
  pub known : Updates semantic_cmp a.known b.known semantic (Some i)
  pub ordered : IsOrdered semantic_cmp b.known
  pub unknown : map string_bytes b.unknown.items ≡ map string_bytes a.unknown.items

-- b is a, and no attribute has the name
pub record IsUnknownPut (name : List ℕ) (a b : Attributes) : Type 0 where
  pub nameless : (s : Semantic) → Names s name → ⊥
  pub known : b.known.entries ≡ a.known.entries
  pub unknown : map string_bytes b.unknown.items ≡ map string_bytes a.unknown.items ++ name ∷ []

abbrev pub IsPut : List ℕ → ℕ → Attributes → Attributes → Type 0
IsPut name i a b = IsKnownPut name i a b ⊎ IsUnknownPut name a b
