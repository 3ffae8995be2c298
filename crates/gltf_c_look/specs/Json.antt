-- What records have besides the members that C sees as structs: `extras` (glTF 2.0, section 5.16)
-- and extensions (section 3.12), as JSON.
use Rattle.std.specs.Prelude.{ℕ, ◌==◌, List, slice_get, Option, Some, None}
use Rattle.std.specs.Prelude.{option_map, if◌then◌else◌}
use Rattle.std.specs.BTreeMap.{BTreeMap, get_by_text}
use Rattle.std.specs.Option.{option_and_then}
use Rattle.std.specs.declared.alloc.Global.{Global}
use Rattle.std.specs.declared.string.String.{String}
use Rattle.serde_json.specs.declared.value.Value.{Value}
use Rattle.gltf_json.specs.declared.root.Root.{Root as Document}
use Rattle.gltf_handles.specs.Members.{unknown_extensions}
use Rattle.gltf_validation.specs.Lights.{lights_of}
use Rattle.gltf_c_scene.specs.Kinds.{kind_of}
use Rattle.gltf_c_scene.specs.declared.kind.Kind.{Kind}
use Rattle.gltf_c_scene.specs.declared.kind.Kind.TheVariants.{Buffers, BufferViews, Accessors}
use Rattle.gltf_c_scene.specs.declared.kind.Kind.TheVariants.{Meshes, Nodes, Materials, Scenes}
use Rattle.gltf_c_scene.specs.declared.kind.Kind.TheVariants.{Skins, Animations, Images, Textures}
use Rattle.gltf_c_scene.specs.declared.kind.Kind.TheVariants.{Samplers, Cameras, Lights, Variants}
use Rattle.gltf_c_scene.specs.declared.kind.Kind.TheVariants.{ExtensionsUsed, ExtensionsRequired}
use Rattle.gltf_c_scene.specs.declared.kind.Kind.TheVariants.{Asset, Root}
use Rattle.gltf_c_look.specs.declared.json.Place.{Place}
use Rattle.gltf_c_look.specs.declared.json.Place.TheVariants.{Record, Primitive, Channel}
use Rattle.gltf_c_look.specs.declared.json.Place.TheVariants.{AnimationSampler}

-- the place of a number: a kind, or one of the three behind the kinds
abbrev pub place_of : ℕ → Option Place
place_of n =
    if n == 19 then Some Primitive
    else if n == 20 then Some Channel
    else if n == 21 then Some AnimationSampler
    else option_map Record (kind_of n)

-- of the one record that there is of a kind
abbrev pub only : {X : Type 0} → ℕ → Option X → Option X
only index x = if index == 0 then x else None

abbrev pub extras_in : {X : Type 0} → (X → Option Value) → List X → ℕ → Option Value
extras_in extras records index = option_and_then extras (slice_get records index)

-- the extras of the record of a kind at an index
abbrev pub extras_at : Kind → ℕ → Document → Option Value
extras_at Buffers index r = extras_in (λ x. x.extras) r.buffers.items index
extras_at BufferViews index r = extras_in (λ x. x.extras) r.buffer_views.items index
extras_at Accessors index r = extras_in (λ x. x.extras) r.accessors.items index
extras_at Meshes index r = extras_in (λ x. x.extras) r.meshes.items index
extras_at Nodes index r = extras_in (λ x. x.extras) r.nodes.items index
extras_at Materials index r = extras_in (λ x. x.extras) r.materials.items index
extras_at Scenes index r = extras_in (λ x. x.extras) r.scenes.items index
extras_at Skins index r = extras_in (λ x. x.extras) r.skins.items index
extras_at Animations index r = extras_in (λ x. x.extras) r.animations.items index
extras_at Images index r = extras_in (λ x. x.extras) r.images.items index
extras_at Textures index r = extras_in (λ x. x.extras) r.textures.items index
extras_at Samplers index r = extras_in (λ x. x.extras) r.samplers.items index
extras_at Cameras index r = extras_in (λ x. x.extras) r.cameras.items index
extras_at Lights index r = extras_in (λ x. x.extras) (lights_of r.extensions) index
extras_at Variants index r = None
extras_at ExtensionsUsed index r = None
extras_at ExtensionsRequired index r = None
extras_at Asset index r = only index r.asset.extras
extras_at Root index r = only index r.extras

-- the extras of a record at a place, or of a part of the record there
abbrev pub extras_from : Place → ℕ → ℕ → Document → Option Value
extras_from (Record kind) index part r = extras_at kind index r
extras_from Primitive index part r =
    option_and_then (λ m. extras_in (λ x. x.extras) m.primitives.items part)
    (slice_get r.meshes.items index)
extras_from Channel index part r =
    option_and_then (λ a. extras_in (λ x. x.extras) a.channels.items part)
    (slice_get r.animations.items index)
extras_from AnimationSampler index part r =
    option_and_then (λ a. extras_in (λ x. x.extras) a.samplers.items part)
    (slice_get r.animations.items index)

abbrev pub extras_of : ℕ → ℕ → ℕ → Document → Option Value
extras_of number index part r =
    option_and_then (λ place. extras_from place index part r) (place_of number)

abbrev pub Others : Type 0
Others = BTreeMap (String Global) Value

abbrev pub others_in : {X : Type 0} → (X → Option Others) → List X → ℕ → Option Others
others_in others records index = option_and_then others (slice_get records index)

-- the extensions of the record of a kind at an index that are kept as JSON
abbrev pub others_at : Kind → ℕ → Document → Option Others
others_at Buffers index r =
    others_in (λ x. unknown_extensions x.extensions) r.buffers.items index
others_at BufferViews index r =
    others_in (λ x. unknown_extensions x.extensions) r.buffer_views.items index
others_at Accessors index r =
    others_in (λ x. unknown_extensions x.extensions) r.accessors.items index
others_at Meshes index r = others_in (λ x. unknown_extensions x.extensions) r.meshes.items index
others_at Nodes index r =
    others_in (λ x. option_map (λ e. e.others) x.extensions) r.nodes.items index
others_at Materials index r =
    others_in (λ x. option_map (λ e. e.others) x.extensions) r.materials.items index
others_at Scenes index r = others_in (λ x. unknown_extensions x.extensions) r.scenes.items index
others_at Skins index r = others_in (λ x. unknown_extensions x.extensions) r.skins.items index
others_at Animations index r =
    others_in (λ x. unknown_extensions x.extensions) r.animations.items index
others_at Images index r = others_in (λ x. unknown_extensions x.extensions) r.images.items index
others_at Textures index r =
    others_in (λ x. unknown_extensions x.extensions) r.textures.items index
others_at Samplers index r =
    others_in (λ x. unknown_extensions x.extensions) r.samplers.items index
others_at Cameras index r = others_in (λ x. unknown_extensions x.extensions) r.cameras.items index
others_at Lights index r = None
others_at Variants index r = None
others_at ExtensionsUsed index r = None
others_at ExtensionsRequired index r = None
others_at Asset index r = only index (unknown_extensions r.asset.extensions)
others_at Root index r = only index (option_map (λ e. e.others) r.extensions)

abbrev pub others_from : Place → ℕ → ℕ → Document → Option Others
others_from (Record kind) index part r = others_at kind index r
others_from Primitive index part r =
    option_and_then
    (λ m. others_in (λ p. option_map (λ e. e.others) p.extensions) m.primitives.items part)
    (slice_get r.meshes.items index)
others_from Channel index part r = None
others_from AnimationSampler index part r = None

-- what the record of a kind at an index has of an extension of that name
abbrev pub extension_at : List ℕ → Kind → ℕ → Document → Option Value
extension_at name kind index r =
    option_and_then (λ others. get_by_text others name) (others_at kind index r)

-- the same of the record of a number, or of a part of that record
abbrev pub extension_of : List ℕ → ℕ → ℕ → ℕ → Document → Option Value
extension_of name number index part r =
    option_and_then (λ others. get_by_text others name)
    (option_and_then (λ place. others_from place index part r) (place_of number))
