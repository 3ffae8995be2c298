-- The formats of attributes (glTF 2.0, section 3.7.2.1), and where they may lie (section 3.6.2.4).
use Rattle.std.specs.Prelude.{ℕ, ◌%◌, ◌==◌, ◌&&◌, ◌||◌, Bool, true, false, not, slice_get, List, []}
use Rattle.std.specs.Prelude.{◌∷◌}
use Rattle.std.specs.Prelude.{codes}
use Rattle.gltf_json.specs.declared.root.Root.{Root}
use Rattle.gltf_json_record.specs.Place.{keyed}
use Rattle.gltf_json_record.specs.declared.validation.Checked.{Checked}
use Rattle.gltf_json_record.specs.declared.validation.Checked.TheVariants.{Valid}
use Rattle.gltf_json_geometry.specs.Semantics.{semantic_name}
use Rattle.gltf_json_geometry.specs.declared.accessor.ComponentType.{ComponentType}
use Rattle.gltf_json_geometry.specs.declared.accessor.ComponentType.TheVariants.{I8, U8, I16, U16}
use Rattle.gltf_json_geometry.specs.declared.accessor.ComponentType.TheVariants.{U32, F32}
use Rattle.gltf_json_geometry.specs.declared.accessor.«Type».{«Type»}
use Rattle.gltf_json_geometry.specs.declared.accessor.«Type».TheVariants.{Scalar, Vec2, Vec3, Vec4}
use Rattle.gltf_json_geometry.specs.declared.accessor.Accessor.{Accessor}
use Rattle.gltf_json_geometry.specs.declared.buffer.View.{View}
use Rattle.gltf_json_geometry.specs.declared.semantic.Semantic.{Semantic}
use Rattle.gltf_json_geometry.specs.declared.semantic.Semantic.TheVariants as meaning
use Rattle.gltf_findings.specs.declared.code.Code.TheVariants.{AttributeInvalidFormat}
use Rattle.gltf_findings.specs.declared.code.Code.TheVariants.{AttributeUnaligned}
use Rattle.gltf_findings.specs.declared.code.Code.TheVariants.{AttributeUnsignedInt}
use Rattle.gltf_findings.specs.Checks.{Checks, Nothing, Condition, At, ◌&◌, optional_checks}
use Rattle.gltf_inspect_meshes.specs.Facts.{or_zero}
use Rattle.gltf_inspect_meshes.specs.Items.{stride_in}
use Rattle.gltf_inspect_meshes.specs.Names.{is_among}

-- the number of components of a scalar or vector
abbrev pub width : Checked «Type» → ℕ
width (Valid Scalar) = 1
width (Valid Vec2) = 2
width (Valid Vec3) = 3
width (Valid Vec4) = 4
width _ = 0

-- "float"
abbrev pub is_float : Checked ComponentType → Bool → Bool
is_float (Valid F32) normalized = not normalized
is_float _ normalized = false

-- "float, unsigned byte normalized, unsigned short normalized"
abbrev pub is_fraction : Checked ComponentType → Bool → Bool
is_fraction (Valid F32) normalized = not normalized
is_fraction (Valid U8) normalized = normalized
is_fraction (Valid U16) normalized = normalized
is_fraction _ normalized = false

-- "unsigned byte, unsigned short"
abbrev pub is_whole : Checked ComponentType → Bool → Bool
is_whole (Valid U8) normalized = not normalized
is_whole (Valid U16) normalized = not normalized
is_whole _ normalized = false

-- "application-specific attribute semantics MUST NOT use unsigned int component type"
abbrev pub is_wide : Checked ComponentType → Bool
is_wide (Valid U32) = true
is_wide _ = false

abbrev pub fits_application : Semantic → Checked ComponentType → Bool
fits_application (meaning.Extras name) c = not (is_wide c)
fits_application _ c = true

-- the table of attributes; it has none of an application
abbrev pub is_allowed : Semantic → ℕ → Checked ComponentType → Bool → Bool
is_allowed (meaning.Extras name) w c normalized = true
is_allowed meaning.Positions w c normalized = w == 3 && is_float c normalized
is_allowed meaning.Normals w c normalized = w == 3 && is_float c normalized
is_allowed meaning.Tangents w c normalized = w == 4 && is_float c normalized
is_allowed (meaning.Colors set) w c normalized = (w == 3 || w == 4) && is_fraction c normalized
is_allowed (meaning.TexCoords set) w c normalized = w == 2 && is_fraction c normalized
is_allowed (meaning.Joints set) w c normalized = w == 4 && is_whole c normalized
is_allowed (meaning.Weights set) w c normalized = w == 4 && is_fraction c normalized

-- "byte, byte normalized, unsigned byte, unsigned byte normalized, short, short normalized,
-- unsigned short, unsigned short normalized"
abbrev pub is_small : Checked ComponentType → Bool
is_small (Valid I8) = true
is_small (Valid U8) = true
is_small (Valid I16) = true
is_small (Valid U16) = true
is_small _ = false

-- "byte normalized, short normalized"
abbrev pub is_signed_fraction : Checked ComponentType → Bool → Bool
is_signed_fraction (Valid I8) normalized = normalized
is_signed_fraction (Valid I16) normalized = normalized
is_signed_fraction _ normalized = false

-- the formats that the extension KHR_mesh_quantization adds to the table ("Extending Mesh
-- Attributes")
abbrev pub is_quantized : Semantic → ℕ → Checked ComponentType → Bool → Bool
is_quantized meaning.Positions w c normalized = w == 3 && is_small c
is_quantized meaning.Normals w c normalized = w == 3 && is_signed_fraction c normalized
is_quantized meaning.Tangents w c normalized = w == 4 && is_signed_fraction c normalized
is_quantized (meaning.TexCoords set) w c normalized = w == 2 && is_small c
is_quantized _ w c normalized = false

-- a document declares that extension
abbrev pub declares_quantization : Root → Bool
declares_quantization r = is_among r.extensions_used.items (codes "KHR_mesh_quantization")

abbrev pub is_format : Bool → Semantic → ℕ → Checked ComponentType → Bool → Bool
is_format quantized semantic w c normalized =
    is_allowed semantic w c normalized || quantized && is_quantized semantic w c normalized

-- "for performance and compatibility reasons, each element of a vertex attribute MUST be aligned to
-- 4-byte boundaries inside a bufferView (that is, accessor.byteOffset and bufferView.byteStride
-- MUST be multiples of 4)"
abbrev pub aligned_checks : Accessor → View → Checks
aligned_checks a v =
    Condition (or_zero a.byte_offset % 4 == 0 && stride_in a v.byte_stride % 4 == 0)
    AttributeUnaligned

abbrev pub aligned_index_checks : Root → Accessor → ℕ → Checks
aligned_index_checks r a i = optional_checks (aligned_checks a) (slice_get r.buffer_views.items i)

abbrev pub format_checks : Root → Bool → Semantic → Accessor → Checks
format_checks r quantized semantic a =
    Condition (is_format quantized semantic (width a.type_) a.component_type a.normalized)
    AttributeInvalidFormat
    & Condition (fits_application semantic a.component_type) AttributeUnsignedInt
    & optional_checks (aligned_index_checks r a) a.buffer_view

abbrev pub formats_checks : Root → Bool → List (Semantic × ℕ) → Checks
formats_checks r quantized [] = Nothing
formats_checks r quantized (entry ∷ entries) =
    At (keyed (semantic_name entry.0))
    (optional_checks (format_checks r quantized entry.0) (slice_get r.accessors.items entry.1))
    & formats_checks r quantized entries
