use Rattle.std.proofs.Common.{◌≡◌, ◌+◌, ◌*◌, ◌<◌, ◌≤◌, ℕ, get_or}
use Rattle.gltf_meshopt.specs.Numbers.{stepped}
use Rattle.gltf_meshopt.proofs.elements.step_element.Given as goal

abbrev pub invariant-loop-k : goal.invariant-loop-k
invariant-loop-k l = record {
  done : (j : ℕ) → j < l.k → get_or l.last j 0 ≡ stepped 256 (get_or l.fn.last j 0) (get_or
      l.deltas (j * l.size + l.index) 0);
  rest : (j : ℕ) → l.k ≤ j → get_or l.last j 0 ≡ get_or l.fn.last j 0;
}
