-- The rules of buffers and buffer views (glTF 2.0, section 3.6.1), in the order of their members.
use Rattle.std.specs.Prelude.{codes}
use Rattle.gltf_json_geometry.specs.declared.buffer.Buffer.{Buffer}
use Rattle.gltf_json_geometry.specs.declared.buffer.View.{View}
use Rattle.gltf_validation.specs.declared.counts.Counts.{Counts}
use Rattle.gltf_validation.specs.Rules.{Rules, ◌&◌}
use Rattle.gltf_validation.specs.Members.{member, code_rules, index_rules, optional_rules}
use Rattle.gltf_validation.specs.Members.{size_rules}

abbrev pub buffer_rules : Counts → Buffer → Rules
buffer_rules c r =
    member (codes "byteLength") (size_rules r.byte_length)

abbrev pub view_rules : Counts → View → Rules
view_rules c r =
    member (codes "buffer") (index_rules c.buffers r.buffer)
    & member (codes "byteLength") (size_rules r.byte_length)
    & member (codes "byteOffset") (optional_rules size_rules r.byte_offset)
    & member (codes "byteStride") (optional_rules size_rules r.byte_stride)
    & member (codes "target") (optional_rules code_rules r.target)
