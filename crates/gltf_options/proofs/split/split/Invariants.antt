use Rattle.std.proofs.Common.{map}
use Rattle.gltf_options.proofs.Parted.{AreParted}
use Rattle.gltf_options.proofs.split.split.Given as goal

abbrev pub invariant-loop-place : goal.invariant-loop-place
invariant-loop-place l =
    AreParted (map (λ k. k.now) l.also) l.yielded l.left.items l.places.items l.taken.items
