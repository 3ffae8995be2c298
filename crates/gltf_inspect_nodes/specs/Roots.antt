-- Where nodes lead to (glTF 2.0, sections 3.5.2 and 3.7.3.2): "the node hierarchy MUST be a set of
-- disjoint strict trees. That is node hierarchy MUST NOT contain cycles", and the joints of a skin
-- "MUST have a common root".
use Rattle.std.specs.Prelude.{ℕ, ◌+◌, Bool, true, false, ◌&&◌, ◌||◌, not, nat_eq, nat_lt}
use Rattle.std.specs.Prelude.{if◌then◌else◌, map, length, get_or, set, List, [], ◌∷◌, codes}
use Rattle.std.specs.Prelude.{Option, Some, None}
use Rattle.gltf_json.specs.declared.root.Root.{Root}
use Rattle.gltf_json_record.specs.Place.{numbered}
use Rattle.gltf_json_scene.specs.declared.scene.Node.{Node}
use Rattle.gltf_json_scene.specs.declared.skin.Skin.{Skin}
use Rattle.gltf_findings.specs.declared.code.Code.TheVariants.{NodeLoop, SkinNoCommonRoot}
use Rattle.gltf_findings.specs.Checks.{Checks, Nothing, Condition, At, ◌&◌, member, list_checks}
use Rattle.gltf_inspect_nodes.specs.Named.{is_named, children_of, joints_of, all_named}

-- the numbers of the nodes, from i on
abbrev pub numbers : ℕ → List Node → List ℕ
numbers i [] = []
numbers i (n ∷ ns) = i ∷ numbers (i + 1) ns

-- these nodes have the parent i
abbrev pub with_parent : List ℕ → ℕ → List ℕ → List ℕ
with_parent parents i [] = parents
with_parent parents i (child ∷ children) = with_parent (set parents child i) i children

abbrev pub with_parents : List ℕ → ℕ → List Node → List ℕ
with_parents parents i [] = parents
with_parents parents i (n ∷ ns) = with_parents (with_parent parents i (children_of n)) (i + 1) ns

-- of each node its parent (the last one, where several name it as their child); itself where it has
-- none
abbrev pub parents_of : List Node → List ℕ
parents_of ns = with_parents (numbers 0 ns) 0 ns

-- where a node leads to by a table of the nodes; a number that is no node leads nowhere else
abbrev pub led : List ℕ → ℕ → ℕ
led table k = get_or table k k

-- each of these leads to itself
abbrev pub are_fixed : List ℕ → List ℕ → Bool
are_fixed table [] = true
are_fixed table (k ∷ ks) = nat_eq (led table k) k && are_fixed table ks

-- twice as many steps: the same, where the next step leads nowhere else
abbrev pub twice : List ℕ → List ℕ
twice table = if are_fixed table table then table else map (led table) table

abbrev pub times_16 : List ℕ → List ℕ
times_16 table = twice (twice (twice (twice table)))

abbrev pub times_65536 : List ℕ → List ℕ
times_65536 table = times_16 (times_16 (times_16 (times_16 table)))

-- where a node leads to by 2 ^ 64 steps to the parent: more than there are nodes, so this is its
-- root, or it stands on a loop
unfoldable pub ends_of : List Node → List ℕ
ends_of ns =
    times_65536 (times_65536 (times_65536 (times_65536 (parents_of ns))))

-- a node where one or more steps to the parent lead back to it: some node leads there, and it is a
-- child itself
abbrev pub loop_checks : (ℕ → Bool) → (ℕ → Bool) → ℕ → List Node → Checks
loop_checks is_end is_child i [] = Nothing
loop_checks is_end is_child i (n ∷ ns) =
    At (numbered i) (Condition (not (is_end i && is_child i)) NodeLoop)
    & loop_checks is_end is_child (i + 1) ns

abbrev pub is_end_in : List Node → List ℕ → ℕ → Bool
is_end_in ns ends = is_named (length ns) ends

abbrev pub is_child_of : List Node → ℕ → Bool
is_child_of ns = is_named (length ns) (all_named children_of ns)

-- each of these that is a node leads to that end
abbrev pub lead_to : List ℕ → ℕ → List ℕ → Bool
lead_to ends end [] = true
lead_to ends end (joint ∷ joints) =
    (not (nat_lt joint (length ends)) || nat_eq (led ends joint) end) && lead_to ends end joints

-- where the first of these that is a node leads to
abbrev pub first_end : List ℕ → List ℕ → Option ℕ
first_end ends [] = None
first_end ends (joint ∷ joints) =
    if nat_lt joint (length ends) then Some (led ends joint) else first_end ends joints

abbrev pub lead_to_first : List ℕ → List ℕ → Option ℕ → Bool
lead_to_first ends joints None = true
lead_to_first ends joints (Some end) = lead_to ends end joints

-- all that are nodes lead to the same end
abbrev pub lead_together : List ℕ → List ℕ → Bool
lead_together ends joints = lead_to_first ends joints (first_end ends joints)

-- one of these that is a node leads to a loop: its end is a child itself
abbrev pub leads_to_loop : (ℕ → Bool) → List ℕ → List ℕ → Bool
leads_to_loop is_child ends [] = false
leads_to_loop is_child ends (joint ∷ joints) =
    nat_lt joint (length ends) && is_child (led ends joint) || leads_to_loop is_child ends joints

-- nodes that lead to a loop have no root, which is found at the loop: nothing is found of joints
-- that are such nodes
abbrev pub have_root : (ℕ → Bool) → List ℕ → List ℕ → Bool
have_root is_child ends joints =
    lead_together ends joints || leads_to_loop is_child ends joints

abbrev pub skin_checks : (ℕ → Bool) → List ℕ → Skin → Checks
skin_checks is_child ends s =
    member (codes "joints") (Condition (have_root is_child ends (joints_of s)) SkinNoCommonRoot)

abbrev pub skins_checks : (ℕ → Bool) → List ℕ → List Skin → Checks
skins_checks is_child ends ss = list_checks (skin_checks is_child ends) ss

abbrev pub roots_checks : Root → Checks
roots_checks r =
    member (codes "nodes")
    (loop_checks (is_end_in r.nodes.items (ends_of r.nodes.items)) (is_child_of r.nodes.items) 0
    r.nodes.items)
    & member (codes "skins")
    (skins_checks (is_child_of r.nodes.items) (ends_of r.nodes.items) r.skins.items)
