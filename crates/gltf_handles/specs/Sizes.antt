-- The types of components and of stored indices, and the bytes of an item.
use Rattle.std.specs.Prelude.{◌≡◌, ℕ, ◌*◌}
use Rattle.gltf_json_record.specs.declared.validation.Checked.{Checked}
use Rattle.gltf_json_record.specs.declared.validation.Checked.TheVariants.{Invalid, Valid}
use Rattle.gltf_json_geometry.specs.declared.accessor.ComponentType as code
use Rattle.gltf_json_geometry.specs.declared.accessor.«Type» as shape
use Rattle.gltf_json_geometry.specs.declared.accessor.Accessor.{Accessor}
use Rattle.gltf_json_geometry.specs.declared.accessor.sparse.Indices.{Indices}
use Rattle.gltf_handles.specs.declared.accessor.DataType.{DataType}
use Rattle.gltf_handles.specs.declared.accessor.DataType.TheVariants.{I8, U8, I16, U16, U32, F32}
use Rattle.gltf_handles.specs.declared.accessor.Dimensions.{Dimensions}
use Rattle.gltf_handles.specs.declared.accessor.Dimensions.TheVariants.{Scalar, Vec2, Vec3, Vec4}
use Rattle.gltf_handles.specs.declared.accessor.Dimensions.TheVariants.{Mat2, Mat3, Mat4}
use Rattle.gltf_handles.specs.declared.accessor.sparse.IndexType.{IndexType}
use Rattle.gltf_handles.specs.declared.accessor.sparse.IndexType.TheVariants as stored

-- the code is in its table, and that is what it means
abbrev pub Means : {C M : Type 0} → (C → M) → Checked C → M → Type 0
Means meaning Invalid m = ⊥
Means meaning (Valid c) m = m ≡ meaning c

-- what a table gives for a code, or 0 where the code is in none
abbrev pub code_of : {C : Type 0} → (C → ℕ) → Checked C → ℕ
code_of table Invalid = 0
code_of table (Valid c) = table c

abbrev pub data_type : code.ComponentType → DataType
data_type code.TheVariants.I8 = I8
data_type code.TheVariants.U8 = U8
data_type code.TheVariants.I16 = I16
data_type code.TheVariants.U16 = U16
data_type code.TheVariants.U32 = U32
data_type code.TheVariants.F32 = F32

-- the bytes of a component (glTF 2.0, section 3.6.2.2)
abbrev pub component_size : DataType → ℕ
component_size I8 = 1
component_size U8 = 1
component_size I16 = 2
component_size U16 = 2
component_size U32 = 4
component_size F32 = 4

abbrev pub dimensions : shape.«Type» → Dimensions
dimensions shape.TheVariants.Scalar = Scalar
dimensions shape.TheVariants.Vec2 = Vec2
dimensions shape.TheVariants.Vec3 = Vec3
dimensions shape.TheVariants.Vec4 = Vec4
dimensions shape.TheVariants.Mat2 = Mat2
dimensions shape.TheVariants.Mat3 = Mat3
dimensions shape.TheVariants.Mat4 = Mat4

-- the components of an item (glTF 2.0, section 3.6.2.2)
abbrev pub multiplicity : Dimensions → ℕ
multiplicity Scalar = 1
multiplicity Vec2 = 2
multiplicity Vec3 = 3
multiplicity Vec4 = 4
multiplicity Mat2 = 4
multiplicity Mat3 = 9
multiplicity Mat4 = 16

-- the bytes of an item
abbrev pub item_size : Accessor → ℕ
item_size a =
    code_of (λ c. component_size (data_type c)) a.component_type
    * code_of (λ c. multiplicity (dimensions c)) a.type_

-- the type of stored indices: every code but the first two is the third, since rules let no other
-- stand
abbrev pub index_type : code.ComponentType → IndexType
index_type code.TheVariants.U8 = stored.U8
index_type code.TheVariants.U16 = stored.U16
index_type _ = stored.U32

-- the bytes of a stored index (glTF 2.0, section 5.3.3)
abbrev pub index_size : IndexType → ℕ
index_size stored.U8 = 1
index_size stored.U16 = 2
index_size stored.U32 = 4

abbrev pub stored_size : Indices → ℕ
stored_size i = code_of (λ c. index_size (index_type c)) i.component_type
