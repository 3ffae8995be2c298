use Rattle.gltf_bundle.proofs.Imported.{no_buffer_uri, no_image_uri}
use Rattle.gltf_bundle.proofs.laws.needs_no_file.Goals as goal

pub returns : goal.returns
returns c required names path keep answer is reading over s others accepted =
    let one = c.one_text_and_blob.ensures in
    let back = c.reads_back.ensures in
    let spaces = c.spaces_behind.ensures in (
      no_buffer_uri one back spaces required names path keep answer is reading over s others accepted,
      no_image_uri one back spaces required names path keep answer is reading over s others accepted,
    )
