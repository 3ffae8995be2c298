-- Handles of variants.
use Rattle.std.specs.Prelude.{◌≡◌, ℕ, Some, slice_get}
use Rattle.gltf_json.specs.declared.root.Root.{Root}
use Rattle.gltf_json_scene.specs.declared.extensions.scene.khr_materials_variants.Variant.{
  Variant as VariantRecord,
}
use Rattle.gltf_rules.specs.Extensions.{variants_of}
use Rattle.gltf_look.specs.declared.khr_materials_variants.Variant.{Variant}

-- what they show
abbrev pub variant_record : Variant → VariantRecord
variant_record v = v.json.now

-- the handle of variant i of a document
abbrev pub IsVariant : Root → ℕ → Variant → Type 0
IsVariant r i v = slice_get (variants_of r.extensions) i ≡ Some (variant_record v)
