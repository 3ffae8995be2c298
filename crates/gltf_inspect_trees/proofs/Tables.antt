-- Tables of a climb, whatever is kept of depths.
use Rattle.std.proofs.Common.{◌≡◌, ◌≤◌, ◌+◌, ℕ, true, false, refl, sym, ◌∙◌, ap, subst, List, []}
use Rattle.std.proofs.Common.{◌∷◌, ◌++◌, map}
use Rattle.gltf_inspect_nodes.specs.Roots.{led, are_fixed}
use Rattle.gltf_inspect_trees.specs.declared.climb.Climbs.{Climbs}
use Rattle.gltf_inspect_trees.specs.Climbs.{Climb, climb_of, raised, AreTables}
use Rattle.gltf_inspect_trees.proofs.Raised.{raised_none, raised_done, raised_more}

pub tables_none : (c : Climb) (climbs : Climbs) → AreTables c climbs → AreTables (raised 0 c) climbs
tables_none c climbs h = subst (λ d. AreTables d climbs) (sym (raised_none c)) h

-- where they lead to no other node, further doublings change nothing
pub tables_done : (n m : ℕ) (c : Climb) (climbs : Climbs) → AreTables (raised n c) climbs → n ≤ m
    → are_fixed climbs.top.items climbs.top.items ≡ true → AreTables (raised m c) climbs
tables_done n m c climbs h most fixed =
    subst (λ d. AreTables d climbs)
    (raised_done n m c (raised n c) refl most (ap (λ t. are_fixed t t) (sym h.top) ∙ fixed)) h

-- elsewhere a doubling is one more
pub tables_more : (n : ℕ) (c : Climb) (before after : Climbs) → AreTables (raised n c) before
    → are_fixed before.top.items before.top.items ≡ false
    → map (λ t. t.items) after.levels.items
    ≡ map (λ t. t.items) before.levels.items ++ before.top.items ∷ []
    → after.top.items ≡ map (led before.top.items) before.top.items
    → AreTables (raised (n + 1) c) after
tables_more n c before after h moved levels top =
    subst (λ d. AreTables d after)
    (raised_more n c (raised n c) refl (ap (λ t. are_fixed t t) (sym h.top) ∙ moved))
    (record {
      levels = levels ∙ ap (λ ls. ls ++ before.top.items ∷ []) h.levels
          ∙ ap (λ t. (raised n c).levels ++ t ∷ []) h.top;
      top = top ∙ ap (λ t. map (led t) t) h.top;
    })

-- with the depths it is the climb
pub climb_is : (c : Climb) (climbs : Climbs) → AreTables c climbs
    → climbs.depths.items ≡ c.depths → climb_of climbs ≡ c
climb_is c climbs h depths =
    ap {B = Climb} (λ ls. record { levels = ls; top = climbs.top.items; depths = climbs.depths.items })
    h.levels
    ∙ ap {B = Climb} (λ t. record { levels = c.levels; top = t; depths = climbs.depths.items }) h.top
    ∙ ap {B = Climb} (λ ds. record { levels = c.levels; top = c.top; depths = ds }) depths
