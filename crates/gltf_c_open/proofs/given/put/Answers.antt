use Rattle.std.proofs.Common.{ap, ◌∙◌}
use Rattle.std.proofs.lemmas.List.{map-set}
use Rattle.gltf_buffers.specs.Shown.{bytes_of_each}
use Rattle.gltf_c_open.proofs.given.put.Goals as goal

pub returns-clause-buffers : goal.returns-clause-buffers
returns-clause-buffers c =
    ap bytes_of_each c.replace.ensures
    ∙ map-set (λ buffer. buffer.0.items) c.args.file.now.buffers.items c.args.index c.args.bytes
