use Rattle.std.proofs.Common.{ℕ, List}
use Rattle.std.proofs.lemmas.Result.{err_from_is_err_and}
use Rattle.gltf_glb.proofs.Came.{taken, read_behind_none}
use Rattle.gltf_glb.proofs.binary.glb.Glb.from_reader.Goals as goal

pub returns-in_err-read_bytes : goal.returns-in_err-read_bytes
returns-in_err-read_bytes g c =
    let came : List ℕ = c.read_bytes.new.bytes.items in
    let passed = err_from_is_err_and c.from_residual.result c.from_residual.ensures.1 in
    read_behind_none came c.new-bytes.ensures.items c.read_bytes.ensures.came
    c.read_bytes.ensures.within (rw (passed.1, passed.2) c.in_err-read_bytes.ensures.refused)

pub returns : goal.returns
returns g c =
    let came : List ℕ = c.read_bytes.new.bytes.items in
    read_behind_none came c.new-bytes.ensures.items c.read_bytes.ensures.came
    c.read_bytes.ensures.within
    (taken came c.from_vec.result c.in_ok-read_bytes.ensures.whole c.from_vec.ensures.parts
    c.from_vec.ensures.fault)
