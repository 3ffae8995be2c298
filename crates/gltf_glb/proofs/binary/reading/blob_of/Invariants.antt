use Rattle.std.proofs.Common.{◌≡◌, ◌++◌, ℕ, List, length, Option, Result}
use Rattle.gltf_glb.specs.Faults.{Fault}
use Rattle.gltf_glb.specs.Container.{Later}
use Rattle.gltf_glb.proofs.binary.reading.blob_of.Given as goal

-- whatever stands for what is left stands for all, and what is left stands at the end
abbrev pub invariant-chunks : goal.invariant-chunks
invariant-chunks l = record {
  later : (answer : Result (Option (List ℕ)) Fault) → Later l.left answer → Later l.chunks answer;
  place : (front : List ℕ) × (l.chunks ≡ front ++ l.left);
}

abbrev pub decreases-chunks : goal.decreases-chunks
decreases-chunks l = length l.left
