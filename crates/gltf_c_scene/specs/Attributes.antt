-- The attributes of primitives and of their morph targets, as C sees them (glTF 2.0, section
-- 3.7.2).
use Rattle.std.specs.Prelude.{ℕ, List, [], ◌∷◌, ◌++◌, slice_get, codes, ◌==◌}
use Rattle.std.specs.Prelude.{Option, Some, None, option_map, if◌then◌else◌}
use Rattle.std.specs.BTreeMap.{get_by}
use Rattle.std.specs.Option.{option_and_then}
use Rattle.gltf_json.specs.declared.root.Root.{Root}
use Rattle.gltf_json_geometry.specs.declared.mesh.MorphTarget.{MorphTarget}
use Rattle.gltf_json_geometry.specs.declared.mesh.Primitive.{Primitive}
use Rattle.gltf_json_geometry.specs.declared.semantic.Semantic.{Semantic}
use Rattle.gltf_json_geometry.specs.declared.semantic.Semantic.TheVariants.{Extras, Positions}
use Rattle.gltf_json_geometry.specs.declared.semantic.Semantic.TheVariants.{Normals, Tangents}
use Rattle.gltf_json_geometry.specs.declared.semantic.Semantic.TheVariants.{Colors, TexCoords}
use Rattle.gltf_json_geometry.specs.declared.semantic.Semantic.TheVariants.{Joints, Weights}
use Rattle.gltf_json_geometry.specs.Semantics.{semantic_name, semantic_cmp}
use Rattle.gltf_c_scene.specs.Meshes.{primitive_of}
use Rattle.gltf_c_scene.specs.declared.attribute.GltfAttribute.{GltfAttribute}
use Rattle.gltf_c_scene.specs.declared.numbers.TheConstants.{NONE}

-- the number of what an attribute means, and that of its set (section 3.7.2.1)
abbrev pub meaning_number : Semantic → ℕ
meaning_number (Extras name) = 7
meaning_number Positions = 0
meaning_number Normals = 1
meaning_number Tangents = 2
meaning_number (Colors set) = 3
meaning_number (TexCoords set) = 4
meaning_number (Joints set) = 5
meaning_number (Weights set) = 6

abbrev pub set_number : Semantic → ℕ
set_number (Extras name) = 0
set_number Positions = 0
set_number Normals = 0
set_number Tangents = 0
set_number (Colors set) = set
set_number (TexCoords set) = set
set_number (Joints set) = set
set_number (Weights set) = set

-- what C sees of an attribute
abbrev pub shown_entry : Semantic → ℕ → GltfAttribute
shown_entry s index = record {
  meaning = meaning_number s;
  set = set_number s;
  accessor = index;
  reserved = 0 ∷ 0 ∷ [];
}

-- the attribute of a primitive at a position: they stand in the order of their meanings
abbrev pub entry_at : Primitive → ℕ → Option (Semantic × ℕ)
entry_at p position = slice_get p.attributes.entries position

-- the attributes of a morph target: those that it has of the three (section 3.7.2.2)
abbrev pub of_target : ℕ → ℕ → GltfAttribute
of_target meaning index = record {
  meaning = meaning;
  set = 0;
  accessor = index;
  reserved = 0 ∷ 0 ∷ [];
}

abbrev pub present : ℕ → Option ℕ → List GltfAttribute
present meaning None = []
present meaning (Some index) = of_target meaning index ∷ []

abbrev pub tangents_on : MorphTarget → List GltfAttribute
tangents_on t = present 2 t.tangents

abbrev pub normals_on : MorphTarget → List GltfAttribute
normals_on t = present 1 t.normals ++ tangents_on t

abbrev pub target_attributes : MorphTarget → List GltfAttribute
target_attributes t = present 0 t.positions ++ normals_on t

-- of a primitive where no target is named, else of that morph target
abbrev pub of_either : {X : Type 0} → (Primitive → Option X) → (MorphTarget → Option X) → ℕ
    → Primitive → Option X
of_either own others target p =
    if target == NONE then own p else option_and_then others (slice_get p.targets.items target)

-- the attribute at a position
abbrev pub shown_attribute_of : ℕ → ℕ → ℕ → ℕ → Root → Option GltfAttribute
shown_attribute_of mesh primitive target position r =
    option_and_then
    (of_either
    (λ p. option_map (λ e. shown_entry e.0 e.1) (entry_at p position))
    (λ t. slice_get (target_attributes t) position)
    target)
    (primitive_of mesh primitive r)

-- the attribute of each number from 0 on, with the number of its set
abbrev pub semantic_of : ℕ → ℕ → Option Semantic
semantic_of meaning set =
    slice_get (Positions ∷ Normals ∷ Tangents ∷ Colors set ∷ TexCoords set ∷ Joints set
    ∷ Weights set ∷ []) meaning

-- the accessor of an attribute of a primitive, and of a morph target
abbrev pub attribute_of : Primitive → Semantic → Option ℕ
attribute_of p s = get_by (semantic_cmp s) p.attributes

abbrev pub target_accessor : MorphTarget → ℕ → Option ℕ
target_accessor t meaning =
    option_and_then (λ index. index)
    (slice_get (t.positions ∷ t.normals ∷ t.tangents ∷ []) meaning)

abbrev pub found_attribute_of : ℕ → ℕ → ℕ → ℕ → ℕ → Root → Option ℕ
found_attribute_of mesh primitive target meaning set r =
    option_and_then
    (of_either
    (λ p. option_and_then (attribute_of p) (semantic_of meaning set))
    (λ t. target_accessor t meaning)
    target)
    (primitive_of mesh primitive r)

-- the name of the attribute at a position
abbrev pub target_name : ℕ → List ℕ
target_name meaning =
    if meaning == 0 then codes "POSITION"
    else if meaning == 1 then codes "NORMAL" else codes "TANGENT"

abbrev pub own_name : Primitive → ℕ → Option (List ℕ)
own_name p position = option_map (λ e. semantic_name e.0) (entry_at p position)

abbrev pub name_in_target : MorphTarget → ℕ → Option (List ℕ)
name_in_target t position =
    option_map (λ a. target_name a.meaning) (slice_get (target_attributes t) position)

abbrev pub other_name : ℕ → Option MorphTarget → Option (List ℕ)
other_name position target = option_and_then (λ t. name_in_target t position) target

abbrev pub either_name : ℕ → ℕ → Primitive → Option (List ℕ)
either_name target position p =
    if target == NONE then own_name p position
    else other_name position (slice_get p.targets.items target)

abbrev pub attribute_name_of : ℕ → ℕ → ℕ → ℕ → Root → Option (List ℕ)
attribute_name_of mesh primitive target position r =
    option_and_then (either_name target position) (primitive_of mesh primitive r)
