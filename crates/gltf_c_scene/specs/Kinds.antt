-- The kinds of records by their numbers in C, and how many there are of each (glTF 2.0, section
-- 5.17).
use Rattle.std.specs.Prelude.{ℕ, List, [], ◌∷◌, length, slice_get, Option, unwrap_or, option_map}
use Rattle.gltf_json.specs.declared.root.Root.{Root as Document}
use Rattle.gltf_rules.specs.Extensions.{variants_of}
use Rattle.gltf_validation.specs.Lights.{lights_of}
use Rattle.gltf_c_scene.specs.declared.kind.Kind.{Kind}
use Rattle.gltf_c_scene.specs.declared.kind.Kind.TheVariants.{Buffers, BufferViews, Accessors}
use Rattle.gltf_c_scene.specs.declared.kind.Kind.TheVariants.{Meshes, Nodes, Materials, Scenes}
use Rattle.gltf_c_scene.specs.declared.kind.Kind.TheVariants.{Skins, Animations, Images, Textures}
use Rattle.gltf_c_scene.specs.declared.kind.Kind.TheVariants.{Samplers, Cameras, Lights, Variants}
use Rattle.gltf_c_scene.specs.declared.kind.Kind.TheVariants.{ExtensionsUsed, ExtensionsRequired}
use Rattle.gltf_c_scene.specs.declared.kind.Kind.TheVariants.{Asset, Root}

-- the kind of each number from 0 on
abbrev pub kinds : List Kind
kinds = Buffers ∷ BufferViews ∷ Accessors ∷ Meshes ∷ Nodes ∷ Materials ∷ Scenes ∷ Skins
    ∷ Animations ∷ Images ∷ Textures ∷ Samplers ∷ Cameras ∷ Lights ∷ Variants ∷ ExtensionsUsed
    ∷ ExtensionsRequired ∷ Asset ∷ Root ∷ []

abbrev pub kind_of : ℕ → Option Kind
kind_of number = slice_get kinds number

-- how many records of a kind a document has
abbrev pub record_count : Kind → Document → ℕ
record_count Buffers r = length r.buffers.items
record_count BufferViews r = length r.buffer_views.items
record_count Accessors r = length r.accessors.items
record_count Meshes r = length r.meshes.items
record_count Nodes r = length r.nodes.items
record_count Materials r = length r.materials.items
record_count Scenes r = length r.scenes.items
record_count Skins r = length r.skins.items
record_count Animations r = length r.animations.items
record_count Images r = length r.images.items
record_count Textures r = length r.textures.items
record_count Samplers r = length r.samplers.items
record_count Cameras r = length r.cameras.items
record_count Lights r = length (lights_of r.extensions)
record_count Variants r = length (variants_of r.extensions)
record_count ExtensionsUsed r = length r.extensions_used.items
record_count ExtensionsRequired r = length r.extensions_required.items
record_count Asset r = 1
record_count Root r = 1

-- how many records there are of the kind of a number; none where the number has no kind
abbrev pub count_of : ℕ → Document → ℕ
count_of number r = unwrap_or (option_map (λ kind. record_count kind r) (kind_of number)) 0
