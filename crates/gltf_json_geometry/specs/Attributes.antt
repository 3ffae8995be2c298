-- The attributes of a primitive: an object that gives accessors to names (glTF 2.0, section
-- 3.7.2.1).
use Rattle.std.specs.Prelude.{◌≡◌, ◌⊎◌, ◌∷◌, ℕ, List, [], Option, None, MatchOption, IsSome, IsNone}
use Rattle.std.specs.Prelude.{option_and_then, string_bytes, if◌then◌else◌, map, ⊤}
use Rattle.std.specs.BTreeMap.{get, IsOrdered}
use Rattle.serde_json.specs.Data.{Data, null, boolean, number, string, array, object, Members}
use Rattle.serde_json.specs.Data.{no_members, member}
use Rattle.serde_json.specs.Find.{as_object}
use Rattle.gltf_json_record.specs.Kind.{IsWrongKind, Within}
use Rattle.gltf_json_record.specs.Member.{member_at}
use Rattle.gltf_json_record.specs.Place.{Place, keyed}
use Rattle.gltf_json_record.specs.Scalars.{as_n32, index}
use Rattle.gltf_json_record.specs.declared.error.RecordFault.{RecordFault}
use Rattle.gltf_json_geometry.specs.Semantics.{semantic_name, is_numbered, Names, semantic_cmp}
use Rattle.gltf_json_geometry.specs.declared.semantic.Semantic.{Semantic}
use Rattle.gltf_json_geometry.specs.declared.attributes.Attributes.{Attributes}

-- the index that d has for the attribute s; none where d has no member of its name, or null there
abbrev pub attribute_at : Data → Semantic → Option ℕ
attribute_at d s =
    if is_numbered s then option_and_then as_n32 (member_at (semantic_name s) d) else None

-- d has a member of this name, and it is the name of no attribute
abbrev pub IsUnknownAt : Data → List ℕ → Type 0
IsUnknownAt d name = IsSome (member_at name d) × ((s : Semantic) → Names s name → ⊥)

-- `unknown` are those of these names at which d has an unknown attribute, in the same order
abbrev pub AreUnknown : Data → List (List ℕ) → List (List ℕ) → Type 0
AreUnknown d [] unknown = unknown ≡ []
AreUnknown d (name ∷ names) unknown =
    (IsUnknownAt d name × ((rest : List (List ℕ)) × (unknown ≡ name ∷ rest)
    × AreUnknown d names rest))
    ⊎ ((IsUnknownAt d name → ⊥) × AreUnknown d names unknown)

abbrev pub member_names : Members → List (List ℕ)
member_names no_members = []
member_names (member name d ms) = name ∷ member_names ms

-- the names of an object's members, in the order of their bytes
abbrev pub names_of : Data → List (List ℕ)
names_of null = []
names_of (boolean b) = []
names_of (number n) = []
names_of (string s) = []
names_of (array ds) = []
names_of (object ms) = member_names ms

-- d is an object, and what it has at any name, known or not, is an index
pub record FitAttributes (d : Data) : Type 0 where
  pub is_object : IsSome (as_object d)
  pub indices : (name : List ℕ) → MatchOption (member_at name d) ⊤ index.fits

-- a fits, and a has its attributes: the known ones by what they mean, in order, and the names of
-- the others
pub record AreAttributes (d : Data) (a : Attributes) : Type 0 where
  pub fit : FitAttributes d
  pub known : (s : Semantic) → get semantic_cmp a.known s ≡ attribute_at d s
  pub ordered : IsOrdered semantic_cmp a.known
  pub unknown : AreUnknown d (names_of d) (map string_bytes a.unknown.items)

-- d is no object, or what it has at some name is no index
abbrev pub AttributeFault : Data → List Place → RecordFault → Type 0
AttributeFault d p f =
    (IsNone (as_object d) × IsWrongKind p f)
    ⊎ ((name : List ℕ) × MatchOption (member_at name d) ⊥
    (λ e. Within (keyed name) (index.fault e) p f))
