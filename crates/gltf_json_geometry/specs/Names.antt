-- The names that the standard gives the codes that are numbers.
use Rattle.std.specs.Prelude.{ℕ, List, codes}
use Rattle.gltf_json_geometry.specs.declared.accessor.ComponentType as component
use Rattle.gltf_json_geometry.specs.declared.mesh.Mode as modes
use Rattle.gltf_json_geometry.specs.declared.buffer.Target as target

-- glTF 2.0, section 5.1.3, accessor.componentType
abbrev pub component_type_name : component.ComponentType → List ℕ
component_type_name component.TheVariants.I8 = codes "BYTE"
component_type_name component.TheVariants.U8 = codes "UNSIGNED_BYTE"
component_type_name component.TheVariants.I16 = codes "SHORT"
component_type_name component.TheVariants.U16 = codes "UNSIGNED_SHORT"
component_type_name component.TheVariants.U32 = codes "UNSIGNED_INT"
component_type_name component.TheVariants.F32 = codes "FLOAT"

-- glTF 2.0, section 5.24.4, mesh.primitive.mode
abbrev pub mode_name : modes.Mode → List ℕ
mode_name modes.TheVariants.Points = codes "POINTS"
mode_name modes.TheVariants.Lines = codes "LINES"
mode_name modes.TheVariants.LineLoop = codes "LINE_LOOP"
mode_name modes.TheVariants.LineStrip = codes "LINE_STRIP"
mode_name modes.TheVariants.Triangles = codes "TRIANGLES"
mode_name modes.TheVariants.TriangleStrip = codes "TRIANGLE_STRIP"
mode_name modes.TheVariants.TriangleFan = codes "TRIANGLE_FAN"

-- glTF 2.0, section 5.11.5, bufferView.target
abbrev pub view_target_name : target.Target → List ℕ
view_target_name target.TheVariants.ArrayBuffer = codes "ARRAY_BUFFER"
view_target_name target.TheVariants.ElementArrayBuffer = codes "ELEMENT_ARRAY_BUFFER"
