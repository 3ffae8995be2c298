use Rattle.std.proofs.Common.{ap, ◌∙◌, Some}
use Rattle.gltf_c_open.proofs.Texts.{is_text, is_no_text}
use Rattle.gltf_c_open.proofs.names.text_of.Goals as goal

pub returns-in-Ok : goal.returns-in-Ok
returns-in-Ok c =
    ap Some c.in-Ok.ensures.cases.0 ∙ is_text c.args.part.now c.in-Ok.ensures.cases.1

pub returns-in-Err : goal.returns-in-Err
returns-in-Err c = is_no_text c.args.part.now c.in-Err.ensures.cases.0
