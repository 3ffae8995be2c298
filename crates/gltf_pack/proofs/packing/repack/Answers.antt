use Rattle.std.proofs.lemmas.Result.{IfOk-weaker, IfErr-weaker}
use Rattle.std.proofs.Common.{◌≢◌}
use Rattle.gltf_glb.specs.declared.error.Error.TheVariants.{Memory}
use Rattle.gltf_pack.specs.Repacked.{IsRepacked, RefusesToRepack, IsOnlyAnswer, HasNoAnswer}
use Rattle.gltf_pack.specs.Laws.{IsFixed}
use Rattle.gltf_pack.proofs.Parts.{no_answer}
use Rattle.gltf_pack.proofs.packing.repack.Goals as goal

pub returns-clause-only : goal.returns-clause-only
returns-clause-only c =
    IfOk-weaker c.container_of.result (λ answer. IsRepacked c.args.bytes.now answer.items)
    (λ answer. IsOnlyAnswer c.args.bytes.now answer.items)
    (λ answer. c.one_answer.ensures c.args.bytes.now answer.items) c.container_of.ensures.written

pub returns-clause-again : goal.returns-clause-again
returns-clause-again c =
    IfOk-weaker c.container_of.result (λ answer. IsRepacked c.args.bytes.now answer.items)
    (λ answer. IsFixed answer.items)
    (λ answer. c.repacked_again.ensures c.args.bytes.now answer.items)
    c.container_of.ensures.written

pub returns-clause-exact : goal.returns-clause-exact
returns-clause-exact c =
    IfErr-weaker c.container_of.result (RefusesToRepack c.args.bytes.now)
    (λ e. e ≢ Memory → HasNoAnswer c.args.bytes.now)
    (no_answer c.one_text_and_blob.ensures c.args.bytes.now) c.container_of.ensures.refused
