-- The codes of buffers, accessors and meshes.
use Rattle.std.specs.Prelude.{[], ◌∷◌, Option, codes}
use Rattle.serde_json.specs.Data.{Data}
use Rattle.gltf_json_record.specs.Scalars.{number_codes, word_codes}
use Rattle.gltf_json_record.specs.declared.validation.Checked.{Checked}
use Rattle.gltf_json_geometry.specs.declared.accessor.ComponentType as component
use Rattle.gltf_json_geometry.specs.declared.accessor.«Type» as components
use Rattle.gltf_json_geometry.specs.declared.mesh.Mode as modes
use Rattle.gltf_json_geometry.specs.declared.buffer.Target as target

-- glTF 2.0, section 5.1.3, accessor.componentType
abbrev pub component_type : Data → Option (Checked component.ComponentType)
component_type = number_codes
    ((5120, component.TheVariants.I8)
    ∷ (5121, component.TheVariants.U8)
    ∷ (5122, component.TheVariants.I16)
    ∷ (5123, component.TheVariants.U16)
    ∷ (5125, component.TheVariants.U32)
    ∷ (5126, component.TheVariants.F32)
    ∷ [])

-- glTF 2.0, section 5.3.3, accessor.sparse.indices.componentType
abbrev pub index_component_type : Data → Option (Checked component.ComponentType)
index_component_type = number_codes
    ((5121, component.TheVariants.U8)
    ∷ (5123, component.TheVariants.U16)
    ∷ (5125, component.TheVariants.U32)
    ∷ [])

-- glTF 2.0, section 5.1.6, accessor.type
abbrev pub dimensions : Data → Option (Checked components.«Type»)
dimensions = word_codes
    ((codes "SCALAR", components.TheVariants.Scalar)
    ∷ (codes "VEC2", components.TheVariants.Vec2)
    ∷ (codes "VEC3", components.TheVariants.Vec3)
    ∷ (codes "VEC4", components.TheVariants.Vec4)
    ∷ (codes "MAT2", components.TheVariants.Mat2)
    ∷ (codes "MAT3", components.TheVariants.Mat3)
    ∷ (codes "MAT4", components.TheVariants.Mat4)
    ∷ [])

-- glTF 2.0, section 5.24.4, mesh.primitive.mode
abbrev pub mode : Data → Option (Checked modes.Mode)
mode = number_codes
    ((0, modes.TheVariants.Points)
    ∷ (1, modes.TheVariants.Lines)
    ∷ (2, modes.TheVariants.LineLoop)
    ∷ (3, modes.TheVariants.LineStrip)
    ∷ (4, modes.TheVariants.Triangles)
    ∷ (5, modes.TheVariants.TriangleStrip)
    ∷ (6, modes.TheVariants.TriangleFan)
    ∷ [])

-- glTF 2.0, section 5.11.5, bufferView.target
abbrev pub view_target : Data → Option (Checked target.Target)
view_target = number_codes
    ((34962, target.TheVariants.ArrayBuffer)
    ∷ (34963, target.TheVariants.ElementArrayBuffer)
    ∷ [])
