use Rattle.std.proofs.Common.{◌≡◌, ◌≤◌}
use Rattle.gltf_trim.specs.Marks.{before_marked}
use Rattle.gltf_trim.proofs.marks.before_marked.Given as goal

abbrev pub invariant-loop-stay : goal.invariant-loop-stay
invariant-loop-stay l = record {
  same : before_marked l.stay l.marks ≡ before_marked l.count l.marks;
  within : l.stay ≤ l.count;
}

abbrev pub decreases-loop-stay : goal.decreases-loop-stay
decreases-loop-stay l = l.stay
