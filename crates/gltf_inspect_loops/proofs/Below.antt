-- Of joints of which one is on a loop, or below a node that is, nothing is found.
use Rattle.std.proofs.Common.{◌≡◌, ◌<◌, ◌≤◌, ℕ, suc, Bool, true, false, ◌⊎◌, inl, inr}
use Rattle.std.proofs.Common.{refl, sym, ◌∙◌, ap, subst, arith, List, [], ◌∷◌, length}
use Rattle.std.specs.Prelude.{nat_eq, nat_lt, ◌&&◌, ◌||◌, is_some, codes, Some}
use Rattle.std.specs.List.{list_any}
use Rattle.std.proofs.lemmas.Bool.{eqb-true, lt-ltb, true≢false}
use Rattle.gltf_json.specs.declared.root.Root.{Root}
use Rattle.gltf_json_record.specs.Place.{Place, named, numbered}
use Rattle.gltf_json_scene.specs.declared.scene.Node.{Node}
use Rattle.gltf_json_scene.specs.declared.skin.Skin.{Skin}
use Rattle.gltf_findings.specs.declared.code.Code.TheVariants.{SkinNoCommonRoot}
use Rattle.gltf_findings.specs.Checks.{Fails}
use Rattle.gltf_inspect_nodes.specs.Named.{joints_of}
use Rattle.gltf_inspect_nodes.specs.Roots.{led, ends_of, is_end_in, is_child_of, lead_together}
use Rattle.gltf_inspect_nodes.specs.Roots.{leads_to_loop, have_root, roots_checks}
use Rattle.gltf_inspect_loops.specs.Ancestors.{IsParent, IsAncestor, skin_at}
use Rattle.gltf_inspect_loops.proofs.Walks.{after, after_both, after_still}
use Rattle.gltf_inspect_loops.proofs.Tables.{last_in}
use Rattle.gltf_inspect_loops.proofs.Parents.{parent_or_none, parent_some, child-is}
use Rattle.gltf_inspect_loops.proofs.Ends.{ends_steps}
use Rattle.gltf_inspect_loops.proofs.Loops.{Most, up, stays_after, above_after, from_before}
use Rattle.gltf_inspect_loops.proofs.Skins.{found_skin}
use Rattle.gltf_inspect_loops.proofs.Found.{no_node}

-- ---- the end of a node below a loop is a child

child_by : (ns : List Node) (joint above n m : ℕ) → IsAncestor ns n above joint
    → IsAncestor ns (suc m) above above
    → IsParent ns (up ns (after (up ns) Most joint)) (after (up ns) Most joint)
    ⊎ ((is_some (last_in (after (up ns) Most joint) 0 ns) ≡ false)
    × (up ns (after (up ns) Most joint) ≡ after (up ns) Most joint))
    → is_some (last_in (after (up ns) Most joint) 0 ns) ≡ true
child_by ns joint above n m below round (inl parent) =
    parent_some ns (up ns (after (up ns) Most joint)) (after (up ns) Most joint) parent
child_by ns joint above n m below round (inr none) =
    let still = none.1 in
    let leads : after (up ns) Most above ≡ after (up ns) Most joint =
    ap (λ x. after (up ns) Most x) (sym (above_after ns n above joint below))
    ∙ after_both (up ns) Most n joint
    ∙ after_still (up ns) n (after (up ns) Most joint) still in
    let back = from_before (up ns) m above Most (above_after ns (suc m) above above round) in
    let same : above ≡ after (up ns) Most joint =
    sym back.1
    ∙ after_both (up ns) Most back.0 above
    ∙ ap (λ x. after (up ns) back.0 x) leads
    ∙ after_still (up ns) back.0 (after (up ns) Most joint) still in
    subst (λ x. is_some (last_in x 0 ns) ≡ true) same (parent_some ns round.0 above round.1)

end_is_child : (ns : List Node) (joint above n m : ℕ) → joint < length ns
    → IsAncestor ns n above joint → IsAncestor ns (suc m) above above
    → is_child_of ns (led (ends_of ns) joint) ≡ true
end_is_child ns joint above n m within below round =
    let ends = ends_steps ns in
    ap (λ k. is_child_of ns k) (ends.each joint)
    ∙ child-is ns (after (up ns) Most joint) (stays_after ns Most joint within)
    ∙ child_by ns joint above n m below round
    (parent_or_none ns (after (up ns) Most joint) (stays_after ns Most joint within))

-- ---- and so joints with it lead to a loop

or_left : (a b : Bool) → a ≡ true → (a || b) ≡ true
or_left true b h = refl
or_left false b h = cc

or_right : (a b : Bool) → b ≡ true → (a || b) ≡ true
or_right true b h = refl
or_right false b h = h

and_both : (a b : Bool) → a ≡ true → b ≡ true → (a && b) ≡ true
and_both true b p q = q
and_both false b p q = p

at_joint : (ns : List Node) (joint : ℕ) → joint < length ns
    → is_child_of ns (led (ends_of ns) joint) ≡ true
    → (nat_lt joint (length (ends_of ns)) && is_child_of ns (led (ends_of ns) joint)) ≡ true
at_joint ns joint within child =
    let ends = ends_steps ns in
    let there : joint < length (ends_of ns) = let l = ends.long in omega arith in
    and_both (nat_lt joint (length (ends_of ns))) (is_child_of ns (led (ends_of ns) joint))
    (lt-ltb joint (length (ends_of ns)) there) child

leads_here : (ns : List Node) (joints : List ℕ) (joint : ℕ)
    → list_any (nat_eq joint) joints ≡ true → joint < length ns
    → is_child_of ns (led (ends_of ns) joint) ≡ true
    → leads_to_loop (is_child_of ns) (ends_of ns) joints ≡ true
leads_here ns [] joint h within child = cc
leads_here ns (x ∷ xs) joint h within child =
    by_first (nat_eq joint x) refl h (λ any. leads_here ns xs joint any within child)
  where
    by_first : (b : Bool) → nat_eq joint x ≡ b → (b || list_any (nat_eq joint) xs) ≡ true
        → (list_any (nat_eq joint) xs ≡ true
        → leads_to_loop (is_child_of ns) (ends_of ns) xs ≡ true)
        → leads_to_loop (is_child_of ns) (ends_of ns) (x ∷ xs) ≡ true
    by_first true e any rest =
        or_left (nat_lt x (length (ends_of ns)) && is_child_of ns (led (ends_of ns) x))
        (leads_to_loop (is_child_of ns) (ends_of ns) xs)
        (subst (λ k. (nat_lt k (length (ends_of ns)) && is_child_of ns (led (ends_of ns) k)) ≡ true)
        (eqb-true joint x e) (at_joint ns joint within child))
    by_first false e any rest =
        or_right (nat_lt x (length (ends_of ns)) && is_child_of ns (led (ends_of ns) x))
        (leads_to_loop (is_child_of ns) (ends_of ns) xs)
        (rest any)

-- ---- the whole

same_skin : (ss : List Skin) (i j : ℕ) (s t : Skin) → i ≡ j → skin_at ss i ≡ Some s
    → skin_at ss j ≡ Some t → s ≡ t
same_skin ss i j s t same at also =
    let both : Some s ≡ Some t = sym at ∙ ap (skin_at ss) same ∙ also in cc

pub none_found : (r : Root) (i joint above n m : ℕ) (skin : Skin)
    → skin_at r.skins.items i ≡ Some skin → list_any (nat_eq joint) (joints_of skin) ≡ true
    → joint < length r.nodes.items → IsAncestor r.nodes.items n above joint
    → IsAncestor r.nodes.items (suc m) above above
    → Fails (roots_checks r) (named (codes "skins") ∷ numbered i ∷ named (codes "joints") ∷ [])
    SkinNoCommonRoot → ⊥
none_found r i joint above n m skin at there within below round (inl nodes) =
    let no : true ≡ false = no_node (is_end_in r.nodes.items (ends_of r.nodes.items))
    (is_child_of r.nodes.items) 0 r.nodes.items nodes.0 nodes.2 in
    true≢false no
none_found r i joint above n m skin at there within below round (inr skins) =
    let ns = r.nodes.items in
    let found = found_skin (codes "joints")
    (λ s. have_root (is_child_of ns) (ends_of ns) (joints_of s)) SkinNoCommonRoot r.skins.items
    (named (codes "skins") ∷ numbered i ∷ named (codes "joints") ∷ []) skins in
    let number : found.0 ≡ i = let place = found.2 in cc in
    let same : found.1 ≡ skin = same_skin r.skins.items found.0 i found.1 skin number found.3 at in
    let root : have_root (is_child_of ns) (ends_of ns) (joints_of skin) ≡ true =
    or_right (lead_together (ends_of ns) (joints_of skin))
    (leads_to_loop (is_child_of ns) (ends_of ns) (joints_of skin))
    (leads_here ns (joints_of skin) joint there within
    (end_is_child ns joint above n m within below round)) in
    true≢false (sym root
    ∙ ap (λ (s : Skin). have_root (is_child_of ns) (ends_of ns) (joints_of s)) (sym same)
    ∙ found.4)
