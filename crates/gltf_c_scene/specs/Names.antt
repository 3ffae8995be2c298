-- The names of records: `name`, which each may have (glTF 2.0, section 3.3, "Indices and Names"),
-- and the names of extensions (section 3.12).
use Rattle.std.specs.Prelude.{ℕ, List, slice_get, Option, None, option_map}
use Rattle.std.specs.Option.{option_and_then}
use Rattle.std.specs.String.{string_bytes}
use Rattle.std.specs.declared.string.String.{String}
use Rattle.std.specs.declared.alloc.Global.{Global}
use Rattle.gltf_json.specs.declared.root.Root.{Root as Document}
use Rattle.gltf_handles.specs.Members.{text}
use Rattle.gltf_rules.specs.Extensions.{variants_of}
use Rattle.gltf_validation.specs.Lights.{lights_of}
use Rattle.gltf_c_scene.specs.Kinds.{kind_of}
use Rattle.gltf_c_scene.specs.declared.kind.Kind.{Kind}
use Rattle.gltf_c_scene.specs.declared.kind.Kind.TheVariants.{Buffers, BufferViews, Accessors}
use Rattle.gltf_c_scene.specs.declared.kind.Kind.TheVariants.{Meshes, Nodes, Materials, Scenes}
use Rattle.gltf_c_scene.specs.declared.kind.Kind.TheVariants.{Skins, Animations, Images, Textures}
use Rattle.gltf_c_scene.specs.declared.kind.Kind.TheVariants.{Samplers, Cameras, Lights, Variants}
use Rattle.gltf_c_scene.specs.declared.kind.Kind.TheVariants.{ExtensionsUsed, ExtensionsRequired}
use Rattle.gltf_c_scene.specs.declared.kind.Kind.TheVariants.{Asset, Root}

-- the name of an element of a list, where it has one
abbrev pub name_in : {X : Type 0} → (X → Option (String Global)) → List X → ℕ → Option (List ℕ)
name_in name records index = option_and_then (λ x. text (name x)) (slice_get records index)

-- the text of an element of a list, each of which has one
abbrev pub text_in : {X : Type 0} → (X → String Global) → List X → ℕ → Option (List ℕ)
text_in name records index = option_map (λ x. string_bytes (name x)) (slice_get records index)

-- the name of a record of a kind
abbrev pub record_name : Kind → ℕ → Document → Option (List ℕ)
record_name Buffers index r = name_in (λ x. x.name) r.buffers.items index
record_name BufferViews index r = name_in (λ x. x.name) r.buffer_views.items index
record_name Accessors index r = name_in (λ x. x.name) r.accessors.items index
record_name Meshes index r = name_in (λ x. x.name) r.meshes.items index
record_name Nodes index r = name_in (λ x. x.name) r.nodes.items index
record_name Materials index r = name_in (λ x. x.name) r.materials.items index
record_name Scenes index r = name_in (λ x. x.name) r.scenes.items index
record_name Skins index r = name_in (λ x. x.name) r.skins.items index
record_name Animations index r = name_in (λ x. x.name) r.animations.items index
record_name Images index r = name_in (λ x. x.name) r.images.items index
record_name Textures index r = name_in (λ x. x.name) r.textures.items index
record_name Samplers index r = name_in (λ x. x.name) r.samplers.items index
record_name Cameras index r = name_in (λ x. x.name) r.cameras.items index
record_name Lights index r = name_in (λ x. x.name) (lights_of r.extensions) index
record_name Variants index r = text_in (λ x. x.name) (variants_of r.extensions) index
record_name ExtensionsUsed index r = text_in (λ x. x) r.extensions_used.items index
record_name ExtensionsRequired index r = text_in (λ x. x) r.extensions_required.items index
record_name Asset index r = None
record_name Root index r = None

abbrev pub name_of : ℕ → ℕ → Document → Option (List ℕ)
name_of number index r = option_and_then (λ kind. record_name kind index r) (kind_of number)
