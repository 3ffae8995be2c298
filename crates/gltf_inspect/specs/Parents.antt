-- The nodes of a document make up strict trees: each node is the child of at most one node, and of
-- that once (glTF 2.0, section 3.5.2).
use Rattle.std.specs.Prelude.{ℕ, ◌+◌, Bool, ◌&&◌, not, nat_eq, nat_lt, List, [], ◌∷◌, ◌++◌, codes}
use Rattle.std.specs.List.{list_any}
use Rattle.gltf_json_record.specs.Place.{numbered}
use Rattle.gltf_json_scene.specs.declared.scene.Node.{Node}
use Rattle.gltf_findings.specs.declared.code.Code.TheVariants.{NodeParentOverride}
use Rattle.gltf_findings.specs.Checks.{Checks, Nothing, Condition, At, ◌&◌, member}

-- a number below count, and one of before
abbrev pub is_named_before : ℕ → List ℕ → ℕ → Bool
is_named_before count before child = nat_lt child count && list_any (nat_eq child) before

-- no element from k on is one of before, or of those that stand in front of it
abbrev pub children_checks : ℕ → List ℕ → ℕ → List ℕ → Checks
children_checks count before k [] = Nothing
children_checks count before k (child ∷ children) =
    At (numbered k) (Condition (not (is_named_before count before child)) NodeParentOverride)
    & children_checks count (before ++ child ∷ []) (k + 1) children

-- the same of the children of each node from i on
abbrev pub parents_checks : ℕ → List ℕ → ℕ → List Node → Checks
parents_checks count before i [] = Nothing
parents_checks count before i (node ∷ nodes) =
    At (numbered i) (member (codes "children")
    (children_checks count before 0 node.children.items))
    & parents_checks count (before ++ node.children.items) (i + 1) nodes
