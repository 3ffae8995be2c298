-- Why a reader read nothing: there is no accessor, or none of a type that it reads, or that cannot
-- be read (glTF 2.0, section 3.6.2, "Accessors").
use Rattle.std.specs.Prelude.{◌≡◌, ℕ, List, Option, Some, None, Ok, Err, Result, ⊤, is_some, true}
use Rattle.gltf_json.specs.declared.root.Root.{Root}
use Rattle.gltf_json_geometry.specs.declared.accessor.Accessor.{Accessor}
use Rattle.gltf_json_geometry.specs.declared.mesh.MorphTarget.{MorphTarget}
use Rattle.gltf_json_geometry.specs.declared.semantic.Semantic.{Semantic}
use Rattle.gltf_json_geometry.specs.declared.semantic.Semantic.TheVariants as attributes
use Rattle.gltf_handles.specs.declared.accessor.DataType.{DataType}
use Rattle.gltf_handles.specs.declared.accessor.Dimensions.{Dimensions}
use Rattle.gltf_items.specs.declared.item.Item.{Ghosts}
use Rattle.gltf_data.specs.Answers.{Results, IsAsked, AlwaysAnswers, answers_by}
use Rattle.gltf_data.specs.Documents.{accessor_at}
use Rattle.gltf_data.specs.Parts.{Answers, Readable}
use Rattle.gltf_data.specs.Unreadable.{where_all_hold, conditions}
use Rattle.gltf_data.specs.declared.unreadable.Unreadable.{Unreadable}
use Rattle.gltf_read.specs.Colors.{AreColors}
use Rattle.gltf_read.specs.Joints.{AreJoints}
use Rattle.gltf_read.specs.Kinds.{Kinds, OfKind, kind_of, three_floats, four_floats}
use Rattle.gltf_read.specs.Kinds.{colors, tex_coords, joints, weights}
use Rattle.gltf_read.specs.Reading.{Table, ReadsMember, AreItems, type_of, dimensions_of}
use Rattle.gltf_read.specs.TexCoords.{AreTexCoords}
use Rattle.gltf_read.specs.Weights.{AreWeights}
use Rattle.gltf_access.specs.declared.not_read.NotRead.{NotRead}
use Rattle.gltf_access.specs.declared.not_read.NotRead.TheVariants as reason

-- ---- of an accessor

-- nothing where all conditions hold, else the first that fails
abbrev pub reason_of : {X : Type 0} → Result X Unreadable → Option NotRead
reason_of (Ok x) = None
reason_of (Err e) = Some (reason.Unreadable e)

-- it is none exactly where that is so
abbrev pub NoneIff : Option NotRead → Type 0 → Type 0
NoneIff None P = P
NoneIff (Some why) P = P → ⊥

-- an accessor was tried as items of so many bytes: the first of its conditions that fails, by what
-- was answered for its buffers; none exactly where it can be read by what a closure answers that
-- answers one buffer always alike
pub record IsTried (Gives : Results) (size : ℕ) (r : Root) (a : Accessor)
    (why : Option NotRead) : Type 0 where
  pub answers : Answers
  pub asked : IsAsked Gives size r a answers
  pub outcome : why ≡ reason_of (where_all_hold (conditions size r a answers) a)
  pub exact : (answer : ℕ → Option (List ℕ)) → AlwaysAnswers Gives r answer
      → NoneIff why (Readable size r a (answers_by answer size r a))

-- the type of its items is the reason
abbrev pub IsOfType : Accessor → Option NotRead → Type 0
IsOfType a why =
    (c : DataType) × (d : Dimensions) × (type_of a ≡ Some c) × (dimensions_of a ≡ Some d)
    × (why ≡ Some (reason.«Type» c d))

-- as items of so many bytes, or of a type that the standard does not have for what is read
abbrev pub IsWhy : Results → Root → Accessor → Option ℕ → Option NotRead → Type 0
IsWhy Gives r a None why = IsOfType a why
IsWhy Gives r a (Some size) why = IsTried Gives size r a why

-- by the types that the standard has for it, where a reader reads it
abbrev pub IsWhyKind : Option Kinds → Results → Root → Accessor → Option NotRead → Type 0
IsWhyKind None Gives r a why = why ≡ Some reason.NoReader
IsWhyKind (Some kinds) Gives r a why = IsWhy Gives r a (kind_of kinds a) why

-- ---- of a member that names an accessor

abbrev pub IsWhyMember : Kinds → Results → Root → Option ℕ → Option NotRead → Type 0
IsWhyMember kinds Gives r None why = why ≡ Some reason.Absent
IsWhyMember kinds Gives r (Some i) why =
    (a : Accessor) × (accessor_at r i ≡ Some a) × IsWhy Gives r a (kind_of kinds a) why

-- of one that no reader reads
abbrev pub IsUnread : Option ℕ → Option NotRead → Type 0
IsUnread None why = why ≡ Some reason.Absent
IsUnread (Some i) why = why ≡ Some reason.NoReader

abbrev pub IsWhyAttribute : Option Kinds → Results → Root → Option ℕ → Option NotRead → Type 0
IsWhyAttribute None Gives r index why = IsUnread index why
IsWhyAttribute (Some kinds) Gives r index why = IsWhyMember kinds Gives r index why

-- ---- what is read

-- where a closure answers one buffer always alike, there is a reason exactly where by this table
-- nothing is read
abbrev pub Explains : {E : Type 0} → Table E → Results → Root → Option ℕ → Option NotRead → Type 0
Explains {E} Are Gives r index why =
    (answer : ℕ → Option (List ℕ)) → AlwaysAnswers Gives r answer
    → (read : Option E) → ReadsMember Are Gives r index read
    → NoneIff why (is_some read ≡ true)

-- what is read of each attribute, of the types that the standard has for it; of one of the
-- application nothing is. Three and four floats are items by t and u
abbrev pub ExplainsAttribute : {X Y : Type 0} → Ghosts X → Ghosts Y → Semantic → Results → Root
    → Option ℕ → Option NotRead → Type 0
ExplainsAttribute t u (attributes.Extras name) Gives r index why = ⊤
ExplainsAttribute t u attributes.Positions Gives r index why =
    Explains (OfKind three_floats (AreItems {t = t})) Gives r index why
ExplainsAttribute t u attributes.Normals Gives r index why =
    Explains (OfKind three_floats (AreItems {t = t})) Gives r index why
ExplainsAttribute t u attributes.Tangents Gives r index why =
    Explains (OfKind four_floats (AreItems {t = u})) Gives r index why
ExplainsAttribute t u (attributes.Colors set) Gives r index why =
    Explains (OfKind colors AreColors) Gives r index why
ExplainsAttribute t u (attributes.TexCoords set) Gives r index why =
    Explains (OfKind tex_coords AreTexCoords) Gives r index why
ExplainsAttribute t u (attributes.Joints set) Gives r index why =
    Explains (OfKind joints AreJoints) Gives r index why
ExplainsAttribute t u (attributes.Weights set) Gives r index why =
    Explains (OfKind weights AreWeights) Gives r index why

-- ---- of a morph target (glTF 2.0, section 3.7.2.2, "Morph Targets")

-- the member of a target that displaces an attribute; a reader reads three of them
abbrev pub displacement : Semantic → MorphTarget → Option (Option ℕ)
displacement attributes.Positions target = Some target.positions
displacement attributes.Normals target = Some target.normals
displacement attributes.Tangents target = Some target.tangents
displacement _ target = None

abbrev pub IsWhyDisplacement : Results → Root → Option (Option ℕ) → Option NotRead → Type 0
IsWhyDisplacement Gives r None why = why ≡ Some reason.NoReader
IsWhyDisplacement Gives r (Some index) why = IsWhyMember three_floats Gives r index why

-- three floats are items by t
abbrev pub ExplainsDisplacement : {X : Type 0} → Ghosts X → Results → Root → Option (Option ℕ)
    → Option NotRead → Type 0
ExplainsDisplacement t Gives r None why = ⊤
ExplainsDisplacement t Gives r (Some index) why =
    Explains (OfKind three_floats (AreItems {t = t})) Gives r index why
