use Rattle.std.proofs.Common.{rules}
use Rattle.std.specs.Prelude.{slice_get, option_map}
use Rattle.std.specs.List.{concat}
use Rattle.std.proofs.lemmas.Result.{IfOk-weaker}
use Rattle.gltf.specs.Shown.{bytes_of_each}
use Rattle.gltf_guide.proofs.Flat.{made_of_it}
use Rattle.gltf_guide.proofs.bytes.flat.Goals as goal

pub returns : goal.returns
returns c =
    IfOk-weaker c.to_bytes.result _ _
    (λ copy is. made_of_it _ concat _ is.items (option_map (λ bytes. bytes.items) copy) is.flat
    (is.alike (slice_get (bytes_of_each c.args.buffers.now)) (λ b given i is gave. search rules)))
    c.to_bytes.ensures
