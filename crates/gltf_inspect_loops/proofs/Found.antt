-- What the checks of loops and of roots find, node by node.
use Rattle.std.proofs.Common.{◌≡◌, ◌<◌, ◌≤◌, ◌+◌, ℕ, zero, suc, Bool, true, false, inl, inr}
use Rattle.std.proofs.Common.{refl, sym, ◌∙◌, ap, subst, arith, List, [], ◌∷◌, length}
use Rattle.std.specs.Prelude.{◌&&◌, ◌||◌, not, codes, Some}
use Rattle.gltf_json.specs.declared.root.Root.{Root}
use Rattle.gltf_json_record.specs.Place.{Place, named, numbered}
use Rattle.gltf_json_scene.specs.declared.scene.Node.{Node}
use Rattle.gltf_json_scene.specs.declared.skin.Skin.{Skin}
use Rattle.gltf_findings.specs.declared.code.Code.TheVariants.{NodeLoop, SkinNoCommonRoot}
use Rattle.gltf_findings.specs.Checks.{Fails, elements_checks}
use Rattle.gltf_inspect_nodes.specs.Roots.{loop_checks, skin_checks, roots_checks}
use Rattle.gltf_inspect_nodes.specs.Named.{joints_of}
use Rattle.gltf_inspect_nodes.specs.Roots.{ends_of, is_end_in, is_child_of, lead_together}
use Rattle.gltf_inspect_nodes.specs.Roots.{have_root, leads_to_loop}
use Rattle.gltf_inspect_loops.specs.Ancestors.{IsAncestor, AreApart, HasNoLoop, skin_at}
use Rattle.gltf_inspect_loops.proofs.Apart.{apart_of, apart_found, no_loops}
use Rattle.gltf_inspect_loops.proofs.Loops.{Most, found_above, above_found}
use Rattle.gltf_inspect_loops.proofs.Skins.{found_skin, skin_found}

not_false : (b : Bool) → not b ≡ false → b ≡ true
not_false true h = refl
not_false false h = cc

-- a finding of loops is at a node, by its number
fails_at : (e c : ℕ → Bool) (i : ℕ) (ns : List Node) (path : List Place)
    → Fails (loop_checks e c i ns) path NodeLoop
    → (k : ℕ) × (path ≡ numbered k ∷ []) × ((e k && c k) ≡ true)
fails_at e c i [] path h = cc
fails_at e c i (n ∷ ns) path (inl first) =
    (i, first.1 ∙ ap (λ p. numbered i ∷ p) first.2.1, not_false (e i && c i) first.2.0)
fails_at e c i (n ∷ ns) path (inr rest) = fails_at e c (i + 1) ns path rest

at_fails : (e c : ℕ → Bool) (i : ℕ) (ns : List Node) (k j : ℕ) → j < length ns → k ≡ i + j
    → (e k && c k) ≡ true → Fails (loop_checks e c i ns) (numbered k ∷ []) NodeLoop
at_fails e c i [] k j below sum h = absurd (omega (arith, below))
at_fails e c i (n ∷ ns) k zero below sum h =
    let same : k ≡ i = omega arith in
    subst (λ x. Fails (loop_checks e c i (n ∷ ns)) (numbered x ∷ []) NodeLoop) (sym same)
    (inl ([], refl, (ap (λ b. not b) (subst (λ x. (e x && c x) ≡ true) same h), refl, refl)))
at_fails e c i (n ∷ ns) k (suc j) below sum h =
    inr (at_fails e c (i + 1) ns k j (let l : j < length ns = omega arith in l)
    (let s : k ≡ (i + 1) + j = omega arith in s) h)

-- no finding of skins is of a loop
no_skin : (c : ℕ → Bool) (ends : List ℕ) (i : ℕ) (ss : List Skin) (path : List Place)
    → Fails (elements_checks (skin_checks c ends) i ss) path NodeLoop → true ≡ false
no_skin c ends i [] path h = h
no_skin c ends i (s ∷ ss) path (inl first) = cc (first.2.2.2)
no_skin c ends i (s ∷ ss) path (inr rest) = no_skin c ends (i + 1) ss path rest

pub found_loop : (r : Root) (path : List Place) → length r.nodes.items ≤ Most
    → Fails (roots_checks r) path NodeLoop
    → (i : ℕ) × (path ≡ named (codes "nodes") ∷ numbered i ∷ [])
    × (n : ℕ) × IsAncestor r.nodes.items (suc n) i i
found_loop r path few (inl nodes) =
    let at = fails_at (is_end_in r.nodes.items (ends_of r.nodes.items)) (is_child_of r.nodes.items)
    0 r.nodes.items nodes.0 nodes.2 in
    let above = found_above r.nodes.items at.0 few at.2 in
    (at.0, nodes.1 ∙ ap (λ p. named (codes "nodes") ∷ p) at.1, above.0, above.1)
found_loop r path few (inr skins) =
    let no : true ≡ false = no_skin (is_child_of r.nodes.items) (ends_of r.nodes.items) 0
    r.skins.items skins.0 skins.2 in cc

pub loop_found : (r : Root) (path : List Place) (i n : ℕ)
    → path ≡ named (codes "nodes") ∷ numbered i ∷ []
    → IsAncestor r.nodes.items (suc n) i i → Fails (roots_checks r) path NodeLoop
loop_found r path i n at h =
    let below : i < length r.nodes.items = h.1.is_node in
    inl (
      numbered i ∷ [],
      at,
      at_fails (is_end_in r.nodes.items (ends_of r.nodes.items))
          (is_child_of r.nodes.items) 0 r.nodes.items i i below
          (let s : i ≡ 0 + i = omega arith in s) (above_found r.nodes.items i n h),
    )

-- ---- joints

neither : (a b : Bool) → (a || b) ≡ false → (a ≡ false) × (b ≡ false)
neither true b h = cc
neither false b h = (refl, h)

both_false : (a b : Bool) → a ≡ false → b ≡ false → (a || b) ≡ false
both_false true b p q = cc
both_false false b p q = q

-- no finding of loops is of joints
pub no_node : (e c : ℕ → Bool) (i : ℕ) (ns : List Node) (path : List Place)
    → Fails (loop_checks e c i ns) path SkinNoCommonRoot → true ≡ false
no_node e c i [] path h = h
no_node e c i (n ∷ ns) path (inl first) = cc (first.2.2)
no_node e c i (n ∷ ns) path (inr rest) = no_node e c (i + 1) ns path rest

pub found_joints : (r : Root) (path : List Place) → length r.nodes.items ≤ Most
    → HasNoLoop r.nodes.items → Fails (roots_checks r) path SkinNoCommonRoot
    → (i : ℕ) × (skin : Skin)
    × (path ≡ named (codes "skins") ∷ numbered i ∷ named (codes "joints") ∷ [])
    × (skin_at r.skins.items i ≡ Some skin) × AreApart r.nodes.items (joints_of skin)
found_joints r path few no_loop (inl nodes) =
    let no : true ≡ false = no_node (is_end_in r.nodes.items (ends_of r.nodes.items))
    (is_child_of r.nodes.items) 0 r.nodes.items nodes.0 nodes.2 in
    cc
found_joints r path few no_loop (inr skins) =
    let ns = r.nodes.items in
    let at = found_skin (codes "joints")
    (λ s. have_root (is_child_of ns) (ends_of ns) (joints_of s))
    SkinNoCommonRoot r.skins.items path skins in
    let apart : lead_together (ends_of ns) (joints_of at.1) ≡ false =
    (neither (lead_together (ends_of ns) (joints_of at.1))
    (leads_to_loop (is_child_of ns) (ends_of ns) (joints_of at.1)) at.4).0 in (
      at.0,
      at.1,
      at.2,
      at.3,
      apart_of ns (joints_of at.1) few no_loop apart,
    )

pub joints_found : (r : Root) (path : List Place) (i : ℕ) (skin : Skin)
    → length r.nodes.items ≤ Most → HasNoLoop r.nodes.items
    → path ≡ named (codes "skins") ∷ numbered i ∷ named (codes "joints") ∷ []
    → skin_at r.skins.items i ≡ Some skin → AreApart r.nodes.items (joints_of skin)
    → Fails (roots_checks r) path SkinNoCommonRoot
joints_found r path i skin few no_loop at is_skin apart =
    let ns = r.nodes.items in
    inr (skin_found (codes "joints") (λ s. have_root (is_child_of ns) (ends_of ns) (joints_of s))
    SkinNoCommonRoot r.skins.items path i skin at is_skin
    (both_false (lead_together (ends_of ns) (joints_of skin))
    (leads_to_loop (is_child_of ns) (ends_of ns) (joints_of skin))
    (apart_found ns (joints_of skin) apart) (no_loops ns (joints_of skin) few no_loop)))
