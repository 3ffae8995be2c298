use Rattle.gltf_bundle.proofs.Imported.{is_moved, the_buffers}
use Rattle.gltf_bundle.proofs.laws.one_buffer.Goals as goal

pub returns : goal.returns
returns c required names path keep answer is reading over s others accepted =
    let one = c.one_text_and_blob.ensures in
    let back = c.reads_back.ensures in
    let spaces = c.spaces_behind.ensures in (
      is_moved one back spaces required names path keep answer is reading over s others accepted,
      the_buffers one back spaces required names path keep answer is reading over s others accepted,
    )
