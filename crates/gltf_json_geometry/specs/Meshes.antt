-- Meshes and their primitives, row by row (glTF 2.0, sections 5.23 and 5.24).
use Rattle.std.specs.Prelude.{codes, [], ◌∷◌}
use Rattle.gltf_json_record.specs.Kind.{Kind}
use Rattle.gltf_json_record.specs.Scalars.{text, n32, index, any, code}
use Rattle.gltf_json_record.specs.Lists.{list}
use Rattle.gltf_json_record.specs.Table.{required, optional, defaulted, listed, others, ◌&◌, table}
use Rattle.gltf_json_record.specs.Extensions.{others_only}
use Rattle.gltf_json_record.specs.declared.validation.Checked.TheVariants.{Valid}
use Rattle.gltf_json_geometry.specs.AttributeKind.{attributes}
use Rattle.gltf_json_geometry.specs.Codes.{mode}
use Rattle.gltf_json_geometry.specs.declared.mesh.Mode.TheVariants.{Triangles}
use Rattle.gltf_json_geometry.specs.declared.mesh.MorphTarget.{MorphTarget}
use Rattle.gltf_json_geometry.specs.declared.mesh.Primitive.{Primitive}
use Rattle.gltf_json_geometry.specs.declared.mesh.Mesh.{Mesh}
use Rattle.gltf_json_geometry.specs.declared.extensions.mesh.Mapping.{Mapping}
use Rattle.gltf_json_geometry.specs.declared.extensions.mesh.KhrMaterialsVariants.{
  KhrMaterialsVariants,
}
use Rattle.gltf_json_geometry.specs.declared.extensions.mesh.Primitive as extended

unfoldable pub morph_target : Kind MorphTarget
morph_target = table
    (optional (codes "POSITION") (λ r. r.positions) index
    & optional (codes "NORMAL") (λ r. r.normals) index
    & optional (codes "TANGENT") (λ r. r.tangents) index)

-- KHR_materials_variants: a mapping of the extension of a primitive
unfoldable pub mapping : Kind Mapping
mapping = table
    (required (codes "material") (λ r. r.material) n32
    & required (codes "variants") (λ r. r.variants) (list n32))

unfoldable pub primitive_variants : Kind KhrMaterialsVariants
primitive_variants = table
    (listed (codes "mappings") (λ r. r.mappings) mapping)

unfoldable pub primitive_extensions : Kind extended.Primitive
primitive_extensions = table
    (optional (codes "KHR_materials_variants") (λ r. r.khr_materials_variants) primitive_variants
    & others (codes "KHR_materials_variants" ∷ []) (λ r. r.others))

unfoldable pub primitive : Kind Primitive
primitive = table
    (required (codes "attributes")
    (λ r. record { known = r.attributes; unknown = r.unknown_attributes }) attributes
    & optional (codes "indices") (λ r. r.indices) index
    & optional (codes "material") (λ r. r.material) index
    & defaulted (codes "mode") (λ r. r.mode) (Valid Triangles) (code mode)
    & listed (codes "targets") (λ r. r.targets) morph_target
    & optional (codes "extensions") (λ r. r.extensions) primitive_extensions
    & optional (codes "extras") (λ r. r.extras) any)

unfoldable pub mesh : Kind Mesh
mesh = table
    (required (codes "primitives") (λ r. r.primitives) (list primitive)
    & optional (codes "weights") (λ r. r.weights) any
    & optional (codes "name") (λ r. r.name) text
    & optional (codes "extensions") (λ r. r.extensions) others_only
    & optional (codes "extras") (λ r. r.extras) any)
