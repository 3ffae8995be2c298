-- What a walk over a list of items answers, by a position in the list.
use Rattle.std.specs.Prelude.{◌≡◌, ◌≤◌, ℕ, ◌+◌, ◌-◌, nat_lt, min, if◌then◌else◌, List, [], ◌∷◌}
use Rattle.std.specs.Prelude.{length, take, drop, sum_by, slice_get, None}
use Rattle.gltf_items.specs.Sparse.{digits}
use Rattle.gltf_data.specs.declared.walk.Step.{Step}
use Rattle.gltf_data.specs.declared.walk.Step.TheVariants.{Next, Nth, Len}
use Rattle.gltf_data.specs.declared.walk.End.{End}
use Rattle.gltf_data.specs.declared.walk.End.TheVariants.{Last, Count, Stop}
use Rattle.gltf_data.specs.declared.walk.Answer.{Answer}
use Rattle.gltf_data.specs.declared.walk.Answer.TheVariants.{Item, Length}
use Rattle.gltf_data.specs.declared.walk.Ended as outcome
use Rattle.gltf_data.specs.declared.walk.Ended.TheVariants as outcomes

-- what a step answers at a position
abbrev pub answer : {X : Type 0} → List X → ℕ → Step → Answer X
answer items position Next = Item (slice_get items position)
answer items position (Nth n) = Item (slice_get items (position + n))
answer items position Len = Length (length items - position)

-- the position after it
abbrev pub behind : {X : Type 0} → List X → ℕ → Step → ℕ
behind items position Next = min (position + 1) (length items)
behind items position (Nth n) = min (position + n + 1) (length items)
behind items position Len = position

-- what all steps answer
abbrev pub all_answers : {X : Type 0} → List X → ℕ → List Step → List (Answer X)
all_answers items position [] = []
all_answers items position (step ∷ steps) =
    answer items position step ∷ all_answers items (behind items position step) steps

-- the position after all steps
abbrev pub position_after : {X : Type 0} → List X → ℕ → List Step → ℕ
position_after items position [] = position
position_after items position (step ∷ steps) =
    position_after items (behind items position step) steps

-- the items that are left behind some of the steps, from the first on
pub record IsLeftBySome {X : Type 0} (items : List X) (steps : List Step) (others : List X)
    : Type 0 where
  pub taken : ℕ
  pub within : taken ≤ length steps
  pub left : others ≡ drop (position_after items 0 (take taken steps)) items

-- what the end answers at a position
abbrev pub end_answer : {X : Type 0} → List X → ℕ → End → outcome.Ended X
end_answer items position Last =
    outcomes.Last
    (if nat_lt position (length items) then slice_get items (length items - 1) else None)
end_answer items position Count = outcomes.Count (length items - position)
end_answer items position Stop = outcomes.Stopped

-- how many of c stored indices a step and the end read at most
abbrev pub step_reads : ℕ → Step → ℕ
step_reads c Next = 1
step_reads c (Nth n) = digits c + 1
step_reads c Len = 0

abbrev pub end_reads : ℕ → End → ℕ
end_reads c Last = digits c + 1
end_reads c Count = 0
end_reads c Stop = 0

-- and a whole walk
abbrev pub most_index_reads : ℕ → List Step → End → ℕ
most_index_reads c steps end = sum_by (step_reads c) steps + end_reads c end

-- how many items a step and the end ask for
abbrev pub step_items : Step → ℕ
step_items Next = 1
step_items (Nth n) = 1
step_items Len = 0

abbrev pub end_items : End → ℕ
end_items Last = 1
end_items Count = 0
end_items Stop = 0

-- and a whole walk
abbrev pub most_item_reads : List Step → End → ℕ
most_item_reads steps end = sum_by step_items steps + end_items end
