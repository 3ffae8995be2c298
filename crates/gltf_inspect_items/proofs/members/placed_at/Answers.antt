use Rattle.std.proofs.Common.{ap, ◌∙◌}
use Rattle.std.specs.Prelude.{slice_get}
use Rattle.gltf_shared.specs.Shown.{lent_bytes}
use Rattle.gltf_handles.specs.Sizes.{code_of, index_size, index_type}
use Rattle.gltf_json_record.specs.declared.validation.Checked.TheVariants.{Valid}
use Rattle.gltf_inspect_items.proofs.Few.{placed_given}
use Rattle.gltf_inspect_items.proofs.members.placed_at.Goals as goal

pub returns-in-U8 : goal.returns-in-U8
returns-in-U8 c =
    placed_given c.args.document.now (slice_get (lent_bytes c.args.buffers.now))
    c.args.sparse.now c.args.count 1 c.placed_as.result
    (ap (code_of (λ k. index_size (index_type k))) (c.in-Valid.is ∙ ap Valid c.in-U8.is))
    c.placed_as.ensures

pub returns-in-U16 : goal.returns-in-U16
returns-in-U16 c =
    placed_given c.args.document.now (slice_get (lent_bytes c.args.buffers.now))
    c.args.sparse.now c.args.count 2 c.placed_as-in-U16.result
    (ap (code_of (λ k. index_size (index_type k))) (c.in-Valid.is ∙ ap Valid c.in-U16.is))
    c.placed_as-in-U16.ensures

pub returns-in-U32 : goal.returns-in-U32
returns-in-U32 c =
    placed_given c.args.document.now (slice_get (lent_bytes c.args.buffers.now))
    c.args.sparse.now c.args.count 4 c.placed_as-in-U32.result
    (ap (code_of (λ k. index_size (index_type k))) (c.in-Valid.is ∙ ap Valid c.in-U32.is))
    c.placed_as-in-U32.ensures
