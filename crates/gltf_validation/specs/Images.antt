-- The rules of images (glTF 2.0, section 3.8.3), in the order of their members.
use Rattle.std.specs.Prelude.{codes, is_none, is_some}
use Rattle.gltf_json_scene.specs.declared.image.Image.{Image}
use Rattle.gltf_validation.specs.declared.counts.Counts.{Counts}
use Rattle.gltf_validation.specs.Rules.{Rules, ◌&◌}
use Rattle.gltf_validation.specs.Members.{member, index_rules, needed_rules, optional_rules}

abbrev pub image_rules : Counts → Image → Rules
image_rules c r =
    member (codes "bufferView") (optional_rules (index_rules c.views) r.buffer_view)
    & member (codes "mimeType") (needed_rules (is_some r.buffer_view) r.mime_type)
    & member (codes "uri") (needed_rules (is_none r.buffer_view) r.uri)
