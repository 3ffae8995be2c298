-- The lists of a document that stand in its extensions.
use Rattle.std.specs.Prelude.{List, [], Option, Some, None}
use Rattle.std.specs.Option.{option_and_then}
use Rattle.gltf_json.specs.declared.extensions.root.KhrLightsPunctual.{KhrLightsPunctual}
use Rattle.gltf_json.specs.declared.extensions.root.KhrMaterialsVariants.{KhrMaterialsVariants}
use Rattle.gltf_json.specs.declared.extensions.root.Root as extended
use Rattle.gltf_json_scene.specs.declared.extensions.scene.khr_materials_variants.Variant.{Variant}
use Rattle.gltf_validation.specs.declared.counts.Counts.{Counts}
use Rattle.gltf_validation.specs.Documents.{root_lights_rules, root_extensions_rules}
use Rattle.gltf_validation.specs.Lights.{light_rules, lights_within, lights_of}
use Rattle.gltf_validation.specs.Members.{list_rules, optional_rules}
use Rattle.gltf_validation.specs.Rules.{Hold}

-- the extension that holds the variants, where it is there
abbrev pub variants_extension : Option extended.Root → Option KhrMaterialsVariants
variants_extension extensions = option_and_then (λ e. e.khr_materials_variants) extensions

-- the variants of materials (KHR_materials_variants): none, where the extension is absent
abbrev pub variants_within : Option KhrMaterialsVariants → List Variant
variants_within None = []
variants_within (Some extension) = extension.variants.items

abbrev pub variants_of : Option extended.Root → List Variant
variants_of extensions = variants_within (variants_extension extensions)

-- the rules of the lights hold where those of the extensions do
lights_within_hold : (c : Counts) (extension : Option KhrLightsPunctual)
    → Hold (optional_rules (root_lights_rules c) extension)
    → Hold (list_rules (light_rules c) (lights_within extension))
lights_within_hold c None h = tt
lights_within_hold c (Some extension) h = h

pub lights_hold : (c : Counts) (extensions : Option extended.Root)
    → Hold (optional_rules (root_extensions_rules c) extensions)
    → Hold (list_rules (light_rules c) (lights_of extensions))
lights_hold c None h = tt
lights_hold c (Some extensions) h = lights_within_hold c extensions.khr_lights_punctual h
