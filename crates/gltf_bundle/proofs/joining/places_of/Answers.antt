use Rattle.std.proofs.Common.{◌≡◌, length, take, arith, [], ◌∷◌, ◌++◌}
use Rattle.std.proofs.lemmas.Grind.{common_steps}
use Rattle.std.proofs.lemmas.Result.{err_from_is_err_and}
use Rattle.gltf_edit.specs.Joined.{span}
use Rattle.gltf.specs.Shown.{bytes_of_each}
use Rattle.gltf_bundle.proofs.Joins.{start, each_more, go_on}
use Rattle.gltf_bundle.proofs.Refused.{longer, with_one_more}
use Rattle.gltf_bundle.proofs.joining.places_of.Goals as goal

pub loop-buffer-init : goal.loop-buffer-init
loop-buffer-init c = start c.in_ok-spans.spans.items c.in_ok-spans.ensures.items

pub loop-buffer-preserved : goal.loop-buffer-preserved
loop-buffer-preserved c =
    let far = c.loop-buffer in
    let all = bytes_of_each (take far.buffer-index c.args.buffers.now) in
    let long : c.len.result ≡ length c.buffer-item.result.0.items = grind (arith, common_steps) in
    let pushed : c.push.new.self.items ≡ far.spans.items ++ span far.total c.len.result ∷ [] =
    grind (arith, common_steps) in
    rw (each_more c.args.buffers.now far.buffer-index c.buffer-item.result (omega arith)
    c.buffer-item.is)
    (go_on all c.buffer-item.result.0.items far.total c.in_ok-total.total c.len.result
    far.spans.items c.push.new.self.items far.invariant long c.in_ok-total.ensures.end
    pushed (omega arith))

pub returns-in_err-total-clause-refused : goal.returns-in_err-total-clause-refused
returns-in_err-total-clause-refused c =
    let far = c.loop-buffer in
    let long : c.len.result ≡ length c.buffer-item.result.0.items = grind (arith, common_steps) in
    let exit = c.from_residual-in_err-total in
    let passed = err_from_is_err_and exit.result exit.ensures.1 in
    rw (passed.1, passed.2) (longer _ _ c.in_err-total.field-0.0
    (with_one_more c.args.buffers.now far.buffer-index c.buffer-item.result far.total c.len.result
    (omega arith) c.buffer-item.is far.invariant.count long) c.in_err-total.ensures.refused)
