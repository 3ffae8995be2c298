-- Where no node is on a loop, a skeleton is found exactly where a joint is not below it.
use Rattle.std.proofs.Common.{◌≡◌, ◌≤◌, ℕ, Bool, true, false, Option, Some, None, refl}
use Rattle.std.proofs.Common.{◌∙◌, ap, List, [], ◌∷◌, length}
use Rattle.std.specs.Prelude.{nat_lt, ◌||◌, not, codes}
use Rattle.std.proofs.lemmas.Bool.{ltb-true, lt-ltb, iff_false, false_from_ne_true}
use Rattle.gltf_json.specs.declared.root.Root.{Root}
use Rattle.gltf_json_record.specs.Place.{Place, named, numbered}
use Rattle.gltf_json_scene.specs.declared.scene.Node.{Node}
use Rattle.gltf_json_scene.specs.declared.skin.Skin.{Skin}
use Rattle.gltf_findings.specs.declared.code.Code.TheVariants.{SkinSkeletonInvalid}
use Rattle.gltf_findings.specs.Checks.{Fails}
use Rattle.gltf_inspect_nodes.specs.Named.{joints_of}
use Rattle.gltf_inspect_trees.specs.Skeletons.{is_below, all_below, fits_at, skeletons_checks}
use Rattle.gltf_inspect_loops.specs.Ancestors.{HasJointElsewhere, HasNoLoop, skin_at}
use Rattle.gltf_inspect_loops.proofs.Loops.{Most}
use Rattle.gltf_inspect_loops.proofs.Joints.{not_all, all_not}
use Rattle.gltf_inspect_loops.proofs.Rooted.{below-is}
use Rattle.gltf_inspect_loops.proofs.Skins.{found_skin, skin_found}

-- ---- the test of a skin

abbrev fits : List Node → Skin → Bool
fits ns skin = fits_at (is_below ns) (length ns) (joints_of skin) skin.skeleton

elsewhere_by : (ns : List Node) (skin : Skin) (s : ℕ) (b : Bool) → length ns ≤ Most
    → HasNoLoop ns → skin.skeleton ≡ Some s → nat_lt s (length ns) ≡ b
    → (not b || all_below (is_below ns s) (length ns) (joints_of skin)) ≡ false
    → HasJointElsewhere ns skin
elsewhere_by ns skin s false few no_loop at e h = cc
elsewhere_by ns skin s true few no_loop at e h =
    let one = not_all (is_below ns s) (length ns) (joints_of skin) h in
    record {
      skeleton = s;
      is_skeleton = at;
      skeleton_is_node = ltb-true s (length ns) e;
      joint = one.joint;
      joint_there = one.there;
      joint_is_node = one.is_node;
      elsewhere = λ n above.
          iff_false (below-is ns s one.joint few no_loop one.is_node) one.holds (n, above);
    }

elsewhere_of : (ns : List Node) (skin : Skin) (o : Option ℕ) → length ns ≤ Most → HasNoLoop ns
    → skin.skeleton ≡ o → fits_at (is_below ns) (length ns) (joints_of skin) o ≡ false
    → HasJointElsewhere ns skin
elsewhere_of ns skin None few no_loop at h = cc
elsewhere_of ns skin (Some s) few no_loop at h =
    elsewhere_by ns skin s (nat_lt s (length ns)) few no_loop at refl h

unfit : (ns : List Node) (skin : Skin) → length ns ≤ Most → HasNoLoop ns
    → HasJointElsewhere ns skin → fits ns skin ≡ false
unfit ns skin few no_loop h =
    ap (λ o. fits_at (is_below ns) (length ns) (joints_of skin) o) h.is_skeleton
    ∙ ap (λ b. not b || all_below (is_below ns h.skeleton) (length ns) (joints_of skin))
    (lt-ltb h.skeleton (length ns) h.skeleton_is_node)
    ∙ all_not (is_below ns h.skeleton) (length ns) (joints_of skin) h.joint h.joint_is_node
    (false_from_ne_true (is_below ns h.skeleton h.joint) (λ there.
    let above = (below-is ns h.skeleton h.joint few no_loop h.joint_is_node).0 there in
    h.elsewhere above.0 above.1)) h.joint_there

-- ---- what is found

pub found_skeleton : (r : Root) (path : List Place) → length r.nodes.items ≤ Most
    → HasNoLoop r.nodes.items → Fails (skeletons_checks r) path SkinSkeletonInvalid
    → (i : ℕ) × (skin : Skin)
    × (path ≡ named (codes "skins") ∷ numbered i ∷ named (codes "skeleton") ∷ [])
    × (skin_at r.skins.items i ≡ Some skin) × HasJointElsewhere r.nodes.items skin
found_skeleton r path few no_loop h =
    let at = found_skin (codes "skeleton") (fits r.nodes.items) SkinSkeletonInvalid r.skins.items
    path h in (
      at.0,
      at.1,
      at.2,
      at.3,
      elsewhere_of r.nodes.items at.1 at.1.skeleton few no_loop refl at.4,
    )

pub skeleton_found : (r : Root) (path : List Place) (i : ℕ) (skin : Skin)
    → length r.nodes.items ≤ Most → HasNoLoop r.nodes.items
    → path ≡ named (codes "skins") ∷ numbered i ∷ named (codes "skeleton") ∷ []
    → skin_at r.skins.items i ≡ Some skin → HasJointElsewhere r.nodes.items skin
    → Fails (skeletons_checks r) path SkinSkeletonInvalid
skeleton_found r path i skin few no_loop at is_skin h =
    skin_found (codes "skeleton") (fits r.nodes.items) SkinSkeletonInvalid r.skins.items path i skin
    at is_skin (unfit r.nodes.items skin few no_loop h)
