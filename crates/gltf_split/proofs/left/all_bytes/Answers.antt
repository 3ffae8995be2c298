use Rattle.std.proofs.Common.{◌≡◌, ◌∷◌, [], ◌++◌, rules}
use Rattle.gltf_split.proofs.Made.{taken_more}
use Rattle.gltf_split.proofs.left.all_bytes.Goals as goal

pub buffers-preserved : goal.buffers-preserved
buffers-preserved c =
    let far = c.buffers in
    let b = c.in-Some.buffer in
    let all : c.push.new.self.items ≡ far.all.items ++ b.0 ∷ [] = search rules in
    record { bytes = rw all (taken_more far.all.items far.yielded b far.invariant.bytes) }
