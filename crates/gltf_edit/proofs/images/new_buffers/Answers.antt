use Rattle.std.proofs.Common.{ap, sym, ◌∙◌, ◌∷◌, [], take, arith}
use Rattle.gltf_edit.specs.Embedded.{with_items, buffers_of}
use Rattle.gltf_edit.proofs.Pictures.{buffers_last, taken_more}
use Rattle.gltf_edit.proofs.images.new_buffers.Goals as goal

pub loop-picture-preserved : goal.loop-picture-preserved
loop-picture-preserved c =
    let ps = c.args.pictures.now in
    let i = c.loop-picture.picture-index in
    let p = c.picture-item.result in
    c.in_ok-add_buffer.ensures
    ∙ ap (λ ds. with_items ds (buffers_of (p ∷ []))) c.loop-picture.invariant
    ∙ sym (buffers_last (take i ps) p)
    ∙ ap buffers_of (sym (taken_more ps i p (omega arith) c.picture-item.is))
