use Rattle.std.proofs.Common.{◌≡◌, ℕ, Some}
use Rattle.std.specs.Prelude.{slice_get}
use Rattle.gltf_inspect_values.specs.declared.summary.Summary.{Summary}
use Rattle.gltf_inspect_values.proofs.kept.nothing_kept.Given as goal

-- nothing is kept so far
abbrev pub invariant-loop : goal.invariant-loop
invariant-loop l = (i : ℕ) (found : Summary)
    → slice_get l.table.items i ≡ Some (Some found) → ⊥
