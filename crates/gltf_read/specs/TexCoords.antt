-- Texture coordinates, two each (glTF 2.0, section 3.7.2.1, "Meshes: Overview", `TEXCOORD_n`).
use Rattle.std.specs.Prelude.{◌≡◌, Option, Some, None}
use Rattle.gltf_handles.specs.declared.accessor.DataType.{DataType}
use Rattle.gltf_handles.specs.declared.accessor.DataType.TheVariants.{U8, U16, F32}
use Rattle.gltf_casting.specs.declared.tex_coords.ReadTexCoords.{ReadTexCoords}
use Rattle.gltf_casting.specs.declared.tex_coords.ReadTexCoords.TheVariants as tex_coord
use Rattle.gltf_read.specs.Reading.{Reading, Table, ItemsAs, type_of}

-- by the type of components
abbrev pub AreTexCoordsOf : Reading → Option DataType → Option ReadTexCoords → Type 0
AreTexCoordsOf R (Some U8) result = ItemsAs tex_coord.U8 R result
AreTexCoordsOf R (Some U16) result = ItemsAs tex_coord.U16 R result
AreTexCoordsOf R (Some F32) result = ItemsAs tex_coord.F32 R result
AreTexCoordsOf R _ result = result ≡ None

abbrev pub AreTexCoords : Table ReadTexCoords
AreTexCoords R a result = AreTexCoordsOf R (type_of a) result
