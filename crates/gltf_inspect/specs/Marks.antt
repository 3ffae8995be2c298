-- The same checks of nodes by marks: of each node, whether it was named.
use Rattle.std.specs.Prelude.{ℕ, ◌+◌, Bool, true, false, not, get_or, set, List, [], ◌∷◌, codes}
use Rattle.gltf_json_record.specs.Place.{numbered}
use Rattle.gltf_json_scene.specs.declared.scene.Node.{Node}
use Rattle.gltf_findings.specs.declared.code.Code.TheVariants.{NodeParentOverride}
use Rattle.gltf_findings.specs.Checks.{Checks, Nothing, Condition, At, ◌&◌, member}

abbrev pub is_marked : List Bool → ℕ → Bool
is_marked marks child = get_or marks child false

abbrev pub marked : List Bool → List ℕ → List Bool
marked marks [] = marks
marked marks (child ∷ children) = marked (set marks child true) children

abbrev pub marked_children_checks : List Bool → ℕ → List ℕ → Checks
marked_children_checks marks k [] = Nothing
marked_children_checks marks k (child ∷ children) =
    At (numbered k) (Condition (not (is_marked marks child)) NodeParentOverride)
    & marked_children_checks (set marks child true) (k + 1) children

abbrev pub marked_parents_checks : List Bool → ℕ → List Node → Checks
marked_parents_checks marks i [] = Nothing
marked_parents_checks marks i (node ∷ nodes) =
    At (numbered i) (member (codes "children")
    (marked_children_checks marks 0 node.children.items))
    & marked_parents_checks (marked marks node.children.items) (i + 1) nodes
