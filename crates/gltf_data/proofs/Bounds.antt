-- How many index reads a walk makes at most.
use Rattle.std.proofs.Common.{◌≡◌, ℕ, suc, ◌+◌, ◌*◌, ◌≤◌, List, [], ◌∷◌, length, arith}
use Rattle.std.specs.Prelude.{sum_by}
use Rattle.std.proofs.lemmas.List.Sums.{sum_by-cons}
use Rattle.gltf_items.specs.Sparse.{digits}
use Rattle.gltf_data.specs.declared.walk.Step.{Step}
use Rattle.gltf_data.specs.declared.walk.Step.TheVariants.{Next, Nth, Len}
use Rattle.gltf_data.specs.declared.walk.End.{End}
use Rattle.gltf_data.specs.declared.walk.End.TheVariants.{Last, Count, Stop}
use Rattle.gltf_data.specs.Walk.{step_reads, end_reads, most_index_reads}

step_bound : (c : ℕ) (step : Step) → step_reads c step ≤ digits c + 1
step_bound c Next = omega arith
step_bound c (Nth n) = omega arith
step_bound c Len = omega arith

end_bound : (c : ℕ) (end : End) → end_reads c end ≤ digits c + 1
end_bound c Last = omega arith
end_bound c Count = omega arith
end_bound c Stop = omega arith

one_more : (n m : ℕ) → suc n * m ≡ m + n * m
one_more n m = omega arith

steps_bound : (c : ℕ) (steps : List Step)
    → sum_by (step_reads c) steps ≤ length steps * (digits c + 1)
steps_bound c [] = omega arith
steps_bound c (step ∷ steps) =
    let whole : length (step ∷ steps) * (digits c + 1)
    ≡ digits c + 1 + length steps * (digits c + 1) = one_more (length steps) (digits c + 1) in
    omega (
      arith,
      whole,
      sum_by-cons (step_reads c) step steps,
      step_bound c step,
      steps_bound c steps,
    )

pub walk_bound : (c : ℕ) (steps : List Step) (end : End)
    → most_index_reads c steps end ≤ (length steps + 1) * (digits c + 1)
walk_bound c steps end =
    let next : length steps + 1 ≡ suc (length steps) = omega arith in
    let whole : (length steps + 1) * (digits c + 1) ≡ digits c + 1 + length steps * (digits c + 1) =
    rw next (one_more (length steps) (digits c + 1)) in
    omega (arith, whole, steps_bound c steps, end_bound c end)
