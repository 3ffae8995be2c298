-- Nodes with meshes, skins and weights (glTF 2.0, sections 3.7.2.2 and 3.7.3.3).
use Rattle.std.specs.Prelude.{ℕ, ◌==◌, ◌&&◌, ◌||◌, not, Bool, false, is_some, slice_get, map}
use Rattle.std.specs.Prelude.{List, [], ◌∷◌, codes}
use Rattle.serde_json.specs.View.{view}
use Rattle.serde_json.specs.declared.value.Value.{Value}
use Rattle.gltf_json.specs.declared.root.Root.{Root}
use Rattle.gltf_json_geometry.specs.declared.mesh.Mesh.{Mesh}
use Rattle.gltf_json_geometry.specs.declared.mesh.Primitive.{Primitive}
use Rattle.gltf_json_geometry.specs.declared.semantic.Semantic.{Semantic}
use Rattle.gltf_json_scene.specs.declared.scene.Node.{Node}
use Rattle.gltf_findings.specs.declared.code.Code.TheVariants.{NodeWeightsInvalid}
use Rattle.gltf_findings.specs.declared.code.Code.TheVariants.{SkinWithNonSkinnedMesh}
use Rattle.gltf_findings.specs.declared.code.Code.TheVariants.{SkinnedMeshWithoutSkin}
use Rattle.gltf_findings.specs.Checks.{Checks, Condition, ◌&◌, member, optional_checks, list_checks}
use Rattle.gltf_inspect_meshes.specs.Meanings.{meaning_number, set_number}
use Rattle.gltf_inspect_meshes.specs.Targets.{target_count}
use Rattle.gltf_inspect_meshes.specs.Weights.{is_list_of}

-- an attribute is JOINTS_0
abbrev pub has_joints : List (Semantic × ℕ) → Bool
has_joints [] = false
has_joints (entry ∷ entries) =
    meaning_number entry.0 == 6 && set_number entry.0 == 0 || has_joints entries

-- some primitive has JOINTS_0
abbrev pub some_skinned : List Primitive → Bool
some_skinned [] = false
some_skinned (p ∷ ps) = has_joints p.attributes.entries || some_skinned ps

abbrev pub is_skinned : Mesh → Bool
is_skinned m = some_skinned m.primitives.items

-- of each mesh, whether it is skinned
abbrev pub skinned_meshes : Root → List Bool
skinned_meshes r = map (λ m. is_skinned m) r.meshes.items

-- "when skin is defined, all primitives [..] have JOINTS_0 and WEIGHTS_0": a skin and a skinned
-- mesh come together
abbrev pub skin_checks : Bool → Bool → Checks
skin_checks has_skin skinned =
    Condition (not has_skin || skinned) SkinWithNonSkinnedMesh
    & Condition (has_skin || not skinned) SkinnedMeshWithoutSkin

abbrev pub weights_checks : ℕ → Value → Checks
weights_checks count weights = Condition (is_list_of count (view weights)) NodeWeightsInvalid

-- as many weights as the mesh has morph targets
abbrev pub mesh_weights_checks : Node → Mesh → Checks
mesh_weights_checks n m =
    member (codes "weights")
    (optional_checks (weights_checks (target_count m.primitives.items)) n.weights)

abbrev pub mesh_index_checks : List Mesh → List Bool → Node → ℕ → Checks
mesh_index_checks meshes skinned n i =
    optional_checks (skin_checks (is_some n.skin)) (slice_get skinned i)
    & optional_checks (mesh_weights_checks n) (slice_get meshes i)

abbrev pub node_checks : List Mesh → List Bool → Node → Checks
node_checks meshes skinned n = optional_checks (mesh_index_checks meshes skinned n) n.mesh

abbrev pub nodes_checks : Root → List Bool → Checks
nodes_checks r skinned = list_checks (node_checks r.meshes.items skinned) r.nodes.items
