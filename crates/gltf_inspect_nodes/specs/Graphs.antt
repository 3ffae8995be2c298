-- The scenes of a document, its nodes, its skins and the targets of its animations, as a graph
-- (glTF 2.0, sections 3.5, 5.5, 5.25, 5.27 and 5.28). Of an index that leads to no node nothing is
-- found here.
use Rattle.std.specs.Prelude.{ℕ, ◌+◌, ◌*◌, Bool, ◌&&◌, ◌||◌, not, is_none, length, List, [], ◌∷◌}
use Rattle.std.specs.Prelude.{◌++◌}
use Rattle.std.specs.Prelude.{codes, true, false}
use Rattle.gltf_json.specs.declared.root.Root.{Root}
use Rattle.gltf_json_record.specs.Place.{numbered}
use Rattle.gltf_json_record.specs.declared.validation.Checked.{Checked}
use Rattle.gltf_json_record.specs.declared.validation.Checked.TheVariants.{Valid, Invalid}
use Rattle.gltf_json_animation.specs.declared.animation.Animation.{Animation}
use Rattle.gltf_json_animation.specs.declared.animation.Channel.{Channel}
use Rattle.gltf_json_animation.specs.declared.animation.Property.{Property}
use Rattle.gltf_json_animation.specs.declared.animation.Property.TheVariants.{Translation, Rotation}
use Rattle.gltf_json_animation.specs.declared.animation.Property.TheVariants.{Scale}
use Rattle.gltf_json_animation.specs.declared.animation.Property.TheVariants.{MorphTargetWeights}
use Rattle.gltf_json_scene.specs.declared.scene.Node.{Node}
use Rattle.gltf_json_scene.specs.declared.scene.Scene.{Scene}
use Rattle.gltf_findings.specs.declared.code.Code.TheVariants.{NodeEmpty, SceneNonRootNode}
use Rattle.gltf_findings.specs.declared.code.Code.TheVariants.{DuplicateElements, DuplicateTargets}
use Rattle.gltf_findings.specs.Checks.{Checks, Nothing, Condition, At, ◌&◌, member, list_checks}
use Rattle.gltf_inspect_nodes.specs.Named.{is_named, children_of, roots_of, joints_of, all_named}

-- "The nodes of a scene are root nodes": none of them is a child (3.5.1)
abbrev pub root_checks : (ℕ → Bool) → ℕ → Checks
root_checks is_child n = Condition (not (is_child n)) SceneNonRootNode

abbrev pub scene_checks : (ℕ → Bool) → Scene → Checks
scene_checks is_child s = member (codes "nodes") (list_checks (root_checks is_child) (roots_of s))

abbrev pub is_nil : {T : Type 0} → List T → Bool
is_nil [] = true
is_nil (x ∷ xs) = false

-- nothing hangs at the node, and nothing is told of it
abbrev pub is_empty : Node → Bool
is_empty n =
    is_nil n.children.items && is_none n.mesh && is_none n.camera && is_none n.skin
    && is_none n.extensions && is_none n.extras

-- a node that is no joint is there for something
abbrev pub empty_checks : (ℕ → Bool) → ℕ → List Node → Checks
empty_checks is_joint i [] = Nothing
empty_checks is_joint i (n ∷ ns) =
    At (numbered i) (Condition (is_joint i || not (is_empty n)) NodeEmpty)
    & empty_checks is_joint (i + 1) ns

-- each element of a list is there once: no element from k on has the number of one of before, or of
-- those that stand in front of it
abbrev pub unique_checks : {T : Type 0} → (T → ℕ) → (Bool → Checks) → ℕ → List ℕ → ℕ → List T
    → Checks
unique_checks key told count before k [] = Nothing
unique_checks key told count before k (x ∷ xs) =
    At (numbered k) (told (not (is_named count before (key x))))
    & unique_checks key told count (before ++ key x ∷ []) (k + 1) xs

-- a node in a list
abbrev pub node_key : ℕ → ℕ
node_key n = n

abbrev pub node_told : Bool → Checks
node_told is_first = Condition is_first DuplicateElements

-- the same of the list of nodes at a member of each element
abbrev pub uniques_checks : {T : Type 0} → (T → List ℕ) → List ℕ → ℕ → List T → Checks
uniques_checks named name count xs =
    list_checks (λ x. member name (unique_checks node_key node_told count [] 0 (named x))) xs

abbrev pub node_count : Root → ℕ
node_count r = length r.nodes.items

-- a node is the child of one
abbrev pub is_child_in : Root → ℕ → Bool
is_child_in r = is_named (node_count r) (all_named children_of r.nodes.items)

-- a node is the joint of a skin
abbrev pub is_joint_in : Root → ℕ → Bool
is_joint_in r = is_named (node_count r) (all_named joints_of r.skins.items)

-- children, nodes of scenes and joints are each there once in their list (5.25, 5.27 and 5.28)
abbrev pub repeats_checks : Root → Checks
repeats_checks r =
    member (codes "nodes")
    (uniques_checks children_of (codes "children") (node_count r) r.nodes.items)
    & member (codes "scenes")
    (uniques_checks roots_of (codes "nodes") (node_count r) r.scenes.items)
    & member (codes "skins")
    (uniques_checks joints_of (codes "joints") (node_count r) r.skins.items)

-- "Different channels of the same animation MUST NOT have the same targets" (5.5): each node has a
-- number for each of the four paths, and where a path is none of these, there is no such number
abbrev pub path_key : Checked Property → ℕ → ℕ
path_key (Valid Translation) n = 4 * n
path_key (Valid Rotation) n = 4 * n + 1
path_key (Valid Scale) n = 4 * n + 2
path_key (Valid MorphTargetWeights) n = 4 * n + 3
path_key Invalid n = 18446744073709551615

abbrev pub channel_key : Channel → ℕ
channel_key c = path_key c.target.path c.target.node

abbrev pub channel_told : Bool → Checks
channel_told is_first = member (codes "target") (Condition is_first DuplicateTargets)

abbrev pub animation_checks : ℕ → Animation → Checks
animation_checks count a =
    member (codes "channels") (unique_checks channel_key channel_told count [] 0 a.channels.items)

abbrev pub targets_checks : Root → Checks
targets_checks r =
    member (codes "animations")
    (list_checks (animation_checks (4 * node_count r)) r.animations.items)

abbrev pub graph_checks : Root → Checks
graph_checks r =
    member (codes "scenes") (list_checks (scene_checks (is_child_in r)) r.scenes.items)
    & member (codes "nodes") (empty_checks (is_joint_in r) 0 r.nodes.items)
    & repeats_checks r
    & targets_checks r
