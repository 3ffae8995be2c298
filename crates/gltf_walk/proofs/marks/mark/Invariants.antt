use Rattle.std.proofs.Common.{◌≡◌, ◌-◌, ◌+◌, ℕ, false, length}
use Rattle.std.specs.Prelude.{slice_index_or}
use Rattle.gltf_walk.proofs.marks.mark.Given as goal

abbrev pub invariant-longer : goal.invariant-longer
invariant-longer l =
    (k : ℕ) → slice_index_or l.marked.items k false ≡ slice_index_or l.initial.marked.items k false

abbrev pub decreases-longer : goal.decreases-longer
decreases-longer l = l.number + 1 - length l.marked.items
