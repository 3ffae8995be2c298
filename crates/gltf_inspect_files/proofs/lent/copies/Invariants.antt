use Rattle.std.proofs.Common.{◌≡◌, ◌++◌}
use Rattle.gltf.specs.Shown.{bytes_of_each}
use Rattle.gltf_shared.specs.Shown.{bytes_of_each as shared_bytes}
use Rattle.gltf_inspect_files.proofs.lent.copies.Given as goal

-- the bytes so far, and those that are left
abbrev pub invariant-loop-buffer : goal.invariant-loop-buffer
invariant-loop-buffer l =
    bytes_of_each l.own.items ++ shared_bytes l.buffer-iterator.rest.items ≡ shared_bytes l.fn.buffers.items
