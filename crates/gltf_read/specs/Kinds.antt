-- Of which types the standard has the items that readers read: how many components an item has, of
-- which type, and so its bytes (glTF 2.0, sections 3.7.2.1, "Meshes: Overview", 3.7.2.2, "Morph
-- Targets", 3.7.3.1 and 3.7.3.3, of skins, and 3.11, "Animations"). Whether components are
-- normalized says what they mean, and not how they are stored.
use Rattle.std.specs.Prelude.{◌≡◌, ℕ, Option, Some, None, MatchOption}
use Rattle.gltf_json_animation.specs.declared.animation.Property.{Property}
use Rattle.gltf_json_animation.specs.declared.animation.Property.TheVariants as animated
use Rattle.gltf_json_geometry.specs.declared.accessor.Accessor.{Accessor}
use Rattle.gltf_json_geometry.specs.declared.semantic.Semantic.{Semantic}
use Rattle.gltf_json_geometry.specs.declared.semantic.Semantic.TheVariants as attributes
use Rattle.gltf_handles.specs.declared.accessor.DataType.{DataType}
use Rattle.gltf_handles.specs.declared.accessor.DataType.TheVariants.{I8, U8, I16, U16, U32, F32}
use Rattle.gltf_handles.specs.declared.accessor.Dimensions.{Dimensions}
use Rattle.gltf_handles.specs.declared.accessor.Dimensions.TheVariants.{Scalar, Vec2, Vec3, Vec4}
use Rattle.gltf_handles.specs.declared.accessor.Dimensions.TheVariants.{Mat4}
use Rattle.gltf_read.specs.Reading.{Table, type_of, dimensions_of}

-- ---- by the type of components, the bytes of an item of each

-- "float"
abbrev pub floats : ℕ → Option DataType → Option ℕ
floats f32 (Some F32) = Some f32
floats f32 _ = None

-- "unsigned byte, unsigned short, unsigned int"
abbrev pub index_components : Option DataType → Option ℕ
index_components (Some U8) = Some 1
index_components (Some U16) = Some 2
index_components (Some U32) = Some 4
index_components _ = None

-- "unsigned byte, unsigned short"
abbrev pub joint_components : Option DataType → Option ℕ
joint_components (Some U8) = Some 4
joint_components (Some U16) = Some 8
joint_components _ = None

-- "float, unsigned byte normalized, unsigned short normalized"
abbrev pub fractions : (u8 u16 f32 : ℕ) → Option DataType → Option ℕ
fractions u8 u16 f32 (Some U8) = Some u8
fractions u8 u16 f32 (Some U16) = Some u16
fractions u8 u16 f32 (Some F32) = Some f32
fractions u8 u16 f32 _ = None

-- "float", and signed and unsigned bytes and shorts, normalized
abbrev pub signed : (i8 u8 i16 u16 f32 : ℕ) → Option DataType → Option ℕ
signed i8 u8 i16 u16 f32 (Some I8) = Some i8
signed i8 u8 i16 u16 f32 (Some U8) = Some u8
signed i8 u8 i16 u16 f32 (Some I16) = Some i16
signed i8 u8 i16 u16 f32 (Some U16) = Some u16
signed i8 u8 i16 u16 f32 (Some F32) = Some f32
signed i8 u8 i16 u16 f32 _ = None

-- ---- by the dimensions and the type of components, the bytes of an item; none of any other type

abbrev pub Kinds : Type 0
Kinds = Option Dimensions → Option DataType → Option ℕ

-- `POSITION` and `NORMAL`, what morph targets displace, translations and scales
abbrev pub three_floats : Kinds
three_floats (Some Vec3) type = floats 12 type
three_floats _ type = None

-- `TANGENT`
abbrev pub four_floats : Kinds
four_floats (Some Vec4) type = floats 16 type
four_floats _ type = None

-- the times of keyframes
abbrev pub times : Kinds
times (Some Scalar) type = floats 4 type
times _ type = None

-- the matrices of skins
abbrev pub matrices : Kinds
matrices (Some Mat4) type = floats 64 type
matrices _ type = None

-- `indices`
abbrev pub indices : Kinds
indices (Some Scalar) type = index_components type
indices _ type = None

-- `COLOR_n`
abbrev pub colors : Kinds
colors (Some Vec3) type = fractions 3 6 12 type
colors (Some Vec4) type = fractions 4 8 16 type
colors _ type = None

-- `TEXCOORD_n`
abbrev pub tex_coords : Kinds
tex_coords (Some Vec2) type = fractions 2 4 8 type
tex_coords _ type = None

-- `JOINTS_n`
abbrev pub joints : Kinds
joints (Some Vec4) type = joint_components type
joints _ type = None

-- `WEIGHTS_n`
abbrev pub weights : Kinds
weights (Some Vec4) type = fractions 4 8 16 type
weights _ type = None

-- rotations
abbrev pub rotations : Kinds
rotations (Some Vec4) type = signed 4 4 8 8 16 type
rotations _ type = None

-- weights of morph targets
abbrev pub target_weights : Kinds
target_weights (Some Scalar) type = signed 1 1 2 2 4 type
target_weights _ type = None

-- the values of keyframes, by what is animated
abbrev pub outputs : Option Property → Kinds
outputs (Some animated.Translation) dimensions type = three_floats dimensions type
outputs (Some animated.Rotation) dimensions type = rotations dimensions type
outputs (Some animated.Scale) dimensions type = three_floats dimensions type
outputs (Some animated.MorphTargetWeights) dimensions type = target_weights dimensions type
outputs None dimensions type = None

-- the table of attributes; of those of an application there is none
abbrev pub attribute_kinds : Semantic → Option Kinds
attribute_kinds (attributes.Extras name) = None
attribute_kinds attributes.Positions = Some three_floats
attribute_kinds attributes.Normals = Some three_floats
attribute_kinds attributes.Tangents = Some four_floats
attribute_kinds (attributes.Colors set) = Some colors
attribute_kinds (attributes.TexCoords set) = Some tex_coords
attribute_kinds (attributes.Joints set) = Some joints
attribute_kinds (attributes.Weights set) = Some weights

-- ---- of an accessor

-- the bytes of an item, where it is of such a type
abbrev pub kind_of : Kinds → Accessor → Option ℕ
kind_of kinds a = kinds (dimensions_of a) (type_of a)

-- what a table says of accessors whose items are of such a type; nothing is read of others
abbrev pub OfKind : {E : Type 0} → Kinds → Table E → Table E
OfKind kinds Are R a result =
    MatchOption (kind_of kinds a) (result ≡ None) (λ size. Are R a result)
