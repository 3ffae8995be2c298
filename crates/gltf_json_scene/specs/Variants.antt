-- The variants of a document's materials, row by row (KHR_materials_variants).
use Rattle.std.specs.Prelude.{codes}
use Rattle.gltf_json_record.specs.Kind.{Kind}
use Rattle.gltf_json_record.specs.Scalars.{text}
use Rattle.gltf_json_record.specs.Table.{required, table}
use Rattle.gltf_json_scene.specs.declared.extensions.scene.khr_materials_variants.Variant.{Variant}

unfoldable pub variant : Kind Variant
variant = table
    (required (codes "name") (λ r. r.name) text)
