-- The mappings of KHR_materials_variants ("Variant Mappings"): each names a material of the document,
-- and variants of the extension at its root.
use Rattle.std.specs.Prelude.{ℕ, nat_lt, length, codes, List, [], Option, Some, None}
use Rattle.std.specs.Option.{option_and_then}
use Rattle.gltf_json.specs.declared.extensions.root.KhrMaterialsVariants.{
  KhrMaterialsVariants as RootVariants,
}
use Rattle.gltf_json.specs.declared.root.Root.{Root}
use Rattle.gltf_json_geometry.specs.declared.extensions.mesh.KhrMaterialsVariants.{
  KhrMaterialsVariants,
}
use Rattle.gltf_json_geometry.specs.declared.extensions.mesh.Mapping.{Mapping}
use Rattle.gltf_json_geometry.specs.declared.extensions.mesh.Primitive as extended
use Rattle.gltf_findings.specs.declared.code.Code.TheVariants.{UnresolvedReference}
use Rattle.gltf_findings.specs.Checks.{Checks, Condition, ◌&◌, member, optional_checks, list_checks}

-- an index leads to one of so many
abbrev pub index_checks : ℕ → ℕ → Checks
index_checks count i = Condition (nat_lt i count) UnresolvedReference

abbrev pub count_within : Option RootVariants → ℕ
count_within None = 0
count_within (Some e) = length e.variants.items

-- the variants of the document
abbrev pub variant_count : Root → ℕ
variant_count r = count_within (option_and_then (λ e. e.khr_materials_variants) r.extensions)

abbrev pub mapping_checks : Root → Mapping → Checks
mapping_checks r m =
    member (codes "material") (index_checks (length r.materials.items) m.material)
    & member (codes "variants") (list_checks (index_checks (variant_count r)) m.variants.items)

abbrev pub variants_checks : Root → KhrMaterialsVariants → Checks
variants_checks r e = member (codes "mappings") (list_checks (mapping_checks r) e.mappings.items)

-- the extensions of a primitive
abbrev pub extensions_checks : Root → extended.Primitive → Checks
extensions_checks r e =
    member (codes "KHR_materials_variants")
    (optional_checks (variants_checks r) e.khr_materials_variants)
