use Rattle.std.proofs.Common.{sym, ◌∙◌}
use Rattle.gltf_inspect_files.proofs.Whole.{text_found}
use Rattle.gltf_inspect_files.proofs.unkept.unkept_in.Goals as goal

pub returns-in-Ok : goal.returns-in-Ok
returns-in-Ok c =
    text_found c.args.bytes.now c.as_slice.result.now c.inspect_text.result
    (λ other blob parts. (c.in-Ok.ensures.only other blob parts).0 ∙ sym c.as_slice.ensures.value)
    c.inspect_text.ensures
