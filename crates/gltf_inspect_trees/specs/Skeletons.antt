-- The skeletons of skins (glTF 2.0, section 3.7.3.2): "The skeleton property (if present) points to
-- the node that is the common root of a joints hierarchy or to a direct or indirect parent node of
-- the common root."
use Rattle.std.specs.Prelude.{ℕ, zero, suc, Bool, true, false, ◌&&◌, ◌||◌, not, nat_eq, nat_lt}
use Rattle.std.specs.Prelude.{is_some}
use Rattle.std.specs.Prelude.{length, codes, List, [], ◌∷◌, Option, Some, None}
use Rattle.gltf_json.specs.declared.root.Root.{Root}
use Rattle.gltf_json_scene.specs.declared.scene.Node.{Node}
use Rattle.gltf_json_scene.specs.declared.skin.Skin.{Skin}
use Rattle.gltf_findings.specs.declared.code.Code.TheVariants.{SkinSkeletonInvalid}
use Rattle.gltf_findings.specs.Checks.{Checks, Condition, member, list_checks}
use Rattle.gltf_inspect_nodes.specs.Named.{joints_of}
use Rattle.gltf_inspect_nodes.specs.Roots.{parents_of, led, are_fixed}
use Rattle.gltf_inspect_trees.specs.Climbs.{first_climb, raised}

-- at most so many steps to the parent, or none, lead from k to s
unfoldable pub leads : List ℕ → ℕ → ℕ → ℕ → Bool
leads parents zero s k = nat_eq k s
leads parents (suc n) s k = nat_eq k s || leads parents n s (led parents k)

-- each node leads, by steps to the parent, to one that has none: no node is on a loop, but one that
-- is its own child
abbrev pub are_rooted : List Node → Bool
are_rooted ns =
    are_fixed (parents_of ns) (raised 64 (first_climb (parents_of ns))).top

-- k is s, or is below it: by at most 2 ^ 64 steps, which are more than there are nodes
abbrev pub is_below : List Node → ℕ → ℕ → Bool
is_below ns s k = not (are_rooted ns) || leads (parents_of ns) 18446744073709551616 s k

-- each of these that is a node, of so many
abbrev pub all_below : (ℕ → Bool) → ℕ → List ℕ → Bool
all_below below count [] = true
all_below below count (joint ∷ joints) =
    (not (nat_lt joint count) || below joint) && all_below below count joints

abbrev pub fits_at : (ℕ → ℕ → Bool) → ℕ → List ℕ → Option ℕ → Bool
fits_at below count joints None = true
fits_at below count joints (Some s) = not (nat_lt s count) || all_below (below s) count joints

-- each joint is the skeleton or below it
abbrev pub skeleton_checks : (ℕ → ℕ → Bool) → ℕ → Skin → Checks
skeleton_checks below count s =
    member (codes "skeleton")
    (Condition (fits_at below count (joints_of s) s.skeleton) SkinSkeletonInvalid)

abbrev pub node_checks : List Node → List Skin → Checks
node_checks ns ss = list_checks (skeleton_checks (is_below ns) (length ns)) ss

abbrev pub skeletons_checks : Root → Checks
skeletons_checks r = member (codes "skins") (node_checks r.nodes.items r.skins.items)

-- whether one of these names its skeleton
abbrev pub have_skeleton : List Skin → Bool
have_skeleton [] = false
have_skeleton (s ∷ ss) = is_some s.skeleton || have_skeleton ss
