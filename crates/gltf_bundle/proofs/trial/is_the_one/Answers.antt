use Rattle.std.proofs.Common.{◌≡◌, ◌≤◌, ◌∙◌, length, Some, ap, refl}
use Rattle.std.proofs.lemmas.Bool.{leb-true}
use Rattle.gltf_glb.specs.Glb.{items_of}
use Rattle.gltf_bundle.proofs.Tried.{one_blob}
use Rattle.gltf_bundle.proofs.trial.is_the_one.Goals as goal

pub returns-then-is_none : goal.returns-then-is_none
returns-then-is_none c h =
    let bytes = c.as_slice.result.now in
    let enough : c.buffer-item.result.byte_length ≤ length bytes =
    leb-true c.buffer-item.result.byte_length (length bytes) h in
    let there : items_of c.args.blob.now ≡ Some bytes =
    ap items_of c.in-Some.is ∙ rw c.as_slice.ensures.value refl in
    one_blob c.args.buffers.now c.buffer-item.result (items_of c.args.blob.now) bytes
    c.in-len1.len_at_least c.in-len1.len_below c.buffer-item.is there c.if-is_none.ensures enough
