use Rattle.std.proofs.Common.{◌≡◌, ◌++◌, take}
use Rattle.gltf_edit.specs.Joined.{joined}
use Rattle.gltf.specs.Shown.{bytes_of_each}
use Rattle.gltf_bundle.proofs.joining.put_joined.Given as goal

abbrev pub invariant-loop-buffer : goal.invariant-loop-buffer
invariant-loop-buffer l =
    l.out.items
    ≡ l.initial.out.items ++ joined (bytes_of_each (take l.buffer-index l.buffers))
