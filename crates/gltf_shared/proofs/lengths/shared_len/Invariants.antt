use Rattle.std.proofs.Common.{◌≡◌, ◌<◌, ◌^◌, ◌+◌, drop, map}
use Rattle.gltf_buffers.specs.Buffers.{source_of}
use Rattle.gltf_shared.specs.Lengths.{capped, has, no_names, shared_len}
use Rattle.gltf_shared.specs.Shown.{bytes_of_each}
use Rattle.gltf_shared.proofs.lengths.shared_len.Given as goal

-- what was added so far, with what is left, is the whole of it
abbrev pub invariant-loop-i : goal.invariant-loop-i
invariant-loop-i l =
    (l.len < 2 ^ 64)
    × (capped (l.len + shared_len (has l.seen) l.i (map source_of (drop l.i l.buffers))
    (bytes_of_each l.all))
    ≡ capped (shared_len no_names 0 (map source_of l.buffers) (bytes_of_each l.all)))
