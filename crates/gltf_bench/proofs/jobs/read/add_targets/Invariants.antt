use Rattle.gltf_read.specs.MorphTargets.{closure_of}
use Rattle.gltf_bench.proofs.jobs.read.add_targets.Given as goal

-- the closure of what is left may always be called
abbrev pub invariant-loop-k : goal.invariant-loop-k
invariant-loop-k g l = goal.F-IsAlwaysCallable g (closure_of l.targets)
