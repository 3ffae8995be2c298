-- Many steps to the parent at once.
use Rattle.std.specs.Prelude.{◌≡◌, ℕ, zero, suc, ◌+◌, ◌-◌, ◌/◌, ◌%◌, Bool, nat_eq, if◌then◌else◌, map}
use Rattle.std.specs.Prelude.{get_or}
use Rattle.std.specs.Prelude.{List, [], ◌∷◌, ◌++◌}
use Rattle.gltf_inspect_nodes.specs.Roots.{led, are_fixed}
use Rattle.gltf_inspect_trees.specs.declared.climb.Climbs.{Climbs}

-- where each node leads to by one step, by two, by four and so on; by the next number of steps; and
-- how many of these lead to another node
pub record Climb : Type 0 where
  pub levels : List (List ℕ)
  pub top : List ℕ
  pub depths : List ℕ

abbrev pub climb_of : Climbs → Climb
climb_of c = record {
  levels = map (λ t. t.items) c.levels.items;
  top = c.top.items;
  depths = c.depths.items;
}

-- its tables, whatever is kept of depths
pub record AreTables (c : Climb) (climbs : Climbs) : Type 0 where
  pub levels : map (λ t. t.items) climbs.levels.items ≡ c.levels
  pub top : climbs.top.items ≡ c.top

-- of each node, from i on, 0 where it has no parent but itself, else 1
abbrev pub own_depths : ℕ → List ℕ → List ℕ
own_depths i [] = []
own_depths i (parent ∷ parents) = (if nat_eq parent i then 0 else 1) ∷ own_depths (i + 1) parents

-- of each node, from i on, the steps to where it leads by a table, and those from there on
abbrev pub deeper : List ℕ → ℕ → List ℕ → List ℕ
deeper depths i [] = []
deeper depths i (k ∷ ks) = (get_or depths i 0 + get_or depths k 0) ∷ deeper depths (i + 1) ks

abbrev pub first_climb : List ℕ → Climb
first_climb parents = record { levels = []; top = parents; depths = own_depths 0 parents }

-- twice as many steps
abbrev pub doubled : Climb → Climb
doubled c = record {
  levels = c.levels ++ c.top ∷ [];
  top = map (led c.top) c.top;
  depths = deeper c.depths 0 c.top;
}

-- the same where twice as many steps lead nowhere else
unfoldable pub once : Climb → Climb
once c = if are_fixed c.top c.top then c else doubled c

-- so many times
unfoldable pub raised : ℕ → Climb → Climb
raised zero c = c
raised (suc n) c = once (raised n c)

abbrev pub moved : List ℕ → ℕ → ℕ → ℕ
moved table digit k = if nat_eq digit 1 then led table k else k

-- where a node leads to by so many steps, of which these tables have 1, 2, 4 and so on
abbrev pub climbed : List (List ℕ) → List ℕ → ℕ → ℕ → ℕ
climbed [] top steps k = if nat_eq steps 0 then k else led top k
climbed (t ∷ ts) top steps k = climbed ts top (steps / 2) (moved t (steps % 2) k)

-- as many steps as k is deeper than s lead from k to s
abbrev pub reaches : Climb → ℕ → ℕ → Bool
reaches c s k = nat_eq (climbed c.levels c.top (get_or c.depths k 0 - get_or c.depths s 0) k) s
