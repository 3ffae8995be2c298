-- Where no node is on a loop, two nodes lead to one end exactly where they have an ancestor in
-- common.
use Rattle.std.proofs.Common.{◌≡◌, ◌<◌, ◌≤◌, ℕ, zero, suc, false, ◌⊎◌, inl}
use Rattle.std.proofs.Common.{inr}
use Rattle.std.proofs.Common.{refl, sym, ◌∙◌, ap, arith, List, [], ◌∷◌, length, Bool, true}
use Rattle.std.specs.Prelude.{is_some, nat_lt, ◌&&◌, ◌||◌}
use Rattle.std.proofs.lemmas.Bool.{eqb-false, ltb-true}
use Rattle.gltf_json_scene.specs.declared.scene.Node.{Node}
use Rattle.gltf_inspect_nodes.specs.Roots.{led, ends_of, lead_together, leads_to_loop}
use Rattle.gltf_inspect_nodes.specs.Roots.{is_child_of}
use Rattle.gltf_inspect_loops.specs.Ancestors.{IsParent, IsAncestor, AreApart, HasNoLoop}
use Rattle.gltf_inspect_loops.proofs.Walks.{after, after_both, after_still}
use Rattle.gltf_inspect_loops.proofs.Tables.{last_in}
use Rattle.gltf_inspect_loops.proofs.Parents.{parent_or_none, parent_some, child-is}
use Rattle.gltf_inspect_loops.proofs.Ends.{ends_steps}
use Rattle.gltf_inspect_loops.proofs.Loops.{Most, up, stays_after, on_loop, round_above}
use Rattle.gltf_inspect_loops.proofs.Loops.{above_after}
use Rattle.gltf_inspect_loops.proofs.Joints.{two_of, not_together}

-- ---- an end has no parent

end_by : (ns : List Node) (j : ℕ) → length ns ≤ Most → HasNoLoop ns → j < length ns
    → IsParent ns (up ns (after (up ns) Most j)) (after (up ns) Most j)
    ⊎ ((is_some (last_in (after (up ns) Most j) 0 ns) ≡ false)
    × (up ns (after (up ns) Most j) ≡ after (up ns) Most j))
    → up ns (after (up ns) Most j) ≡ after (up ns) Most j
end_by ns j few no_loop below (inr none) = none.1
end_by ns j few no_loop below (inl parent) =
    let loop = on_loop ns j (after (up ns) Most j) few below refl in
    let child = parent_some ns (up ns (after (up ns) Most j)) (after (up ns) Most j) parent in
    absurd (no_loop (after (up ns) Most j) loop.0
    (round_above ns (after (up ns) Most j) loop.0 (stays_after ns Most j below) child loop.1))

pub end_still : (ns : List Node) (j : ℕ) → length ns ≤ Most → HasNoLoop ns → j < length ns
    → up ns (after (up ns) Most j) ≡ after (up ns) Most j
end_still ns j few no_loop below =
    end_by ns j few no_loop below
    (parent_or_none ns (after (up ns) Most j) (stays_after ns Most j below))

-- ---- an ancestor leads to the same end

same_end : (ns : List Node) (j a n : ℕ) → length ns ≤ Most → HasNoLoop ns → j < length ns
    → IsAncestor ns n a j → after (up ns) Most a ≡ after (up ns) Most j
same_end ns j a n few no_loop below h =
    ap (λ x. after (up ns) Most x) (sym (above_after ns n a j h))
    ∙ after_both (up ns) Most n j
    ∙ after_still (up ns) n (after (up ns) Most j) (end_still ns j few no_loop below)

-- ---- steps are ancestors, but for those that lead nowhere else

ancestor_by : (ns : List Node) (n s k : ℕ) → after (up ns) n (up ns k) ≡ s
    → IsParent ns (up ns k) k ⊎ ((is_some (last_in k 0 ns) ≡ false) × (up ns k ≡ k))
    → ((m : ℕ) × IsAncestor ns m s (up ns k)) → (m : ℕ) × IsAncestor ns m s k
ancestor_by ns n s k leads (inl parent) rest = (suc rest.0, (up ns k, parent, rest.1))
ancestor_by ns n s k leads (inr none) rest = (
  zero,
  sym (after_still (up ns) n k none.1)
      ∙ ap (λ x. after (up ns) n x) (sym none.1) ∙ leads,
)

pub ancestor : (ns : List Node) (n s k : ℕ) → k < length ns → after (up ns) n k ≡ s
    → (m : ℕ) × IsAncestor ns m s k
unfolding after
ancestor ns zero s k below leads = (zero, leads)
ancestor ns (suc n) s k below leads =
    ancestor_by ns n s k leads (parent_or_none ns k below)
    (ancestor ns n s (up ns k) (stays_after ns 1 k below) leads)

-- ---- the two tests of joints

pub apart_of : (ns : List Node) (joints : List ℕ) → length ns ≤ Most → HasNoLoop ns
    → lead_together (ends_of ns) joints ≡ false → AreApart ns joints
apart_of ns joints few no_loop h =
    let ends = ends_steps ns in
    let two = two_of (ends_of ns) joints h in
    let one_in : two.one.joint < length ns
    = let l = two.one.is_node in let e = ends.long in omega arith in
    let other_in : two.other.joint < length ns
    = let l = two.other.is_node in let e = ends.long in omega arith in
    record {
      one = two.one.joint;
      other = two.other.joint;
      one_there = two.one.there;
      other_there = two.other.there;
      one_is_node = one_in;
      other_is_node = other_in;
      none = λ a m n up_one up_other.
          eqb-false (led (ends_of ns) two.other.joint) two.end two.other.holds (
          ends.each two.other.joint
          ∙ sym (same_end ns two.other.joint a n few no_loop other_in up_other)
          ∙ same_end ns two.one.joint a m few no_loop one_in up_one
          ∙ sym (ends.each two.one.joint)
          ∙ two.one.holds);
    }

pub apart_found : (ns : List Node) (joints : List ℕ) → AreApart ns joints
    → lead_together (ends_of ns) joints ≡ false
apart_found ns joints h =
    let ends = ends_steps ns in
    let one_in : h.one < length (ends_of ns)
    = let l = h.one_is_node in let e = ends.long in omega arith in
    let other_in : h.other < length (ends_of ns)
    = let l = h.other_is_node in let e = ends.long in omega arith in
    not_together (ends_of ns) joints h.one h.other one_in other_in h.one_there h.other_there
    (λ same.
    let one = ancestor ns Most (after (up ns) Most h.one) h.one h.one_is_node refl in
    let other = ancestor ns Most (after (up ns) Most h.one) h.other h.other_is_node
    (sym (ends.each h.other) ∙ sym same ∙ ends.each h.one) in
    h.none (after (up ns) Most h.one) one.0 other.0 one.1 other.1)

-- ---- where no node is on a loop, no joint leads to one

root_by : (ns : List Node) (j : ℕ) → length ns ≤ Most → HasNoLoop ns → j < length ns
    → IsParent ns (up ns (after (up ns) Most j)) (after (up ns) Most j)
    ⊎ ((is_some (last_in (after (up ns) Most j) 0 ns) ≡ false)
    × (up ns (after (up ns) Most j) ≡ after (up ns) Most j))
    → is_some (last_in (after (up ns) Most j) 0 ns) ≡ false
root_by ns j few no_loop below (inr none) = none.0
root_by ns j few no_loop below (inl parent) =
    let loop = on_loop ns j (after (up ns) Most j) few below refl in
    let child = parent_some ns (up ns (after (up ns) Most j)) (after (up ns) Most j) parent in
    absurd (no_loop (after (up ns) Most j) loop.0
    (round_above ns (after (up ns) Most j) loop.0 (stays_after ns Most j below) child loop.1))

-- the end of a node is no child
end_is_root : (ns : List Node) (j : ℕ) → length ns ≤ Most → HasNoLoop ns → j < length ns
    → is_child_of ns (led (ends_of ns) j) ≡ false
end_is_root ns j few no_loop below =
    let ends = ends_steps ns in
    ap (λ k. is_child_of ns k) (ends.each j)
    ∙ child-is ns (after (up ns) Most j) (stays_after ns Most j below)
    ∙ root_by ns j few no_loop below
    (parent_or_none ns (after (up ns) Most j) (stays_after ns Most j below))

no_loop_by : (ns : List Node) (j : ℕ) (b rest : Bool) → length ns ≤ Most → HasNoLoop ns
    → nat_lt j (length (ends_of ns)) ≡ b → rest ≡ false
    → (b && is_child_of ns (led (ends_of ns) j) || rest) ≡ false
no_loop_by ns j false rest few no_loop e none = none
no_loop_by ns j true rest few no_loop e none =
    let ends = ends_steps ns in
    let inside : j < length (ends_of ns) = ltb-true j (length (ends_of ns)) e in
    let below : j < length ns = let l = ends.long in omega arith in
    rw (end_is_root ns j few no_loop below) none

pub no_loops : (ns : List Node) (joints : List ℕ) → length ns ≤ Most → HasNoLoop ns
    → leads_to_loop (is_child_of ns) (ends_of ns) joints ≡ false
no_loops ns [] few no_loop = refl
no_loops ns (joint ∷ joints) few no_loop =
    no_loop_by ns joint (nat_lt joint (length (ends_of ns)))
    (leads_to_loop (is_child_of ns) (ends_of ns) joints) few no_loop refl
    (no_loops ns joints few no_loop)
