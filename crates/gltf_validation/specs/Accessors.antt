-- The rules of accessors and their sparse parts (glTF 2.0, section 3.6.2), in the order of their
-- members.
use Rattle.std.specs.Prelude.{codes, Bool, true, false}
use Rattle.gltf_json_record.specs.declared.validation.Checked.{Checked}
use Rattle.gltf_json_record.specs.declared.validation.Checked.TheVariants.{Valid}
use Rattle.gltf_json_geometry.specs.declared.accessor.ComponentType.{ComponentType}
use Rattle.gltf_json_geometry.specs.declared.accessor.ComponentType.TheVariants.{U8, U16, U32}
use Rattle.gltf_validation.specs.declared.error.Error.TheVariants.{Invalid}
use Rattle.gltf_json_geometry.specs.declared.accessor.sparse.Indices.{Indices}
use Rattle.gltf_json_geometry.specs.declared.accessor.sparse.Values.{Values}
use Rattle.gltf_json_geometry.specs.declared.accessor.sparse.Sparse.{Sparse}
use Rattle.gltf_json_geometry.specs.declared.accessor.Accessor.{Accessor}
use Rattle.gltf_validation.specs.declared.counts.Counts.{Counts}
use Rattle.gltf_validation.specs.Rules.{Rules, Condition, ◌&◌}
use Rattle.gltf_validation.specs.Members.{member, code_rules, index_rules, optional_rules}
use Rattle.gltf_validation.specs.Members.{size_rules}

-- the code is in the table of stored indices, which are unsigned numbers (section 5.3.3)
abbrev pub is_index_type : Checked ComponentType → Bool
is_index_type (Valid U8) = true
is_index_type (Valid U16) = true
is_index_type (Valid U32) = true
is_index_type _ = false

abbrev pub index_type_rules : Checked ComponentType → Rules
index_type_rules code = Condition (is_index_type code) Invalid

abbrev pub indices_rules : Counts → Indices → Rules
indices_rules c r =
    member (codes "bufferView") (index_rules c.views r.buffer_view)
    & member (codes "byteOffset") (size_rules r.byte_offset)
    & member (codes "componentType") (index_type_rules r.component_type)

abbrev pub values_rules : Counts → Values → Rules
values_rules c r =
    member (codes "bufferView") (index_rules c.views r.buffer_view)
    & member (codes "byteOffset") (size_rules r.byte_offset)

abbrev pub sparse_rules : Counts → Sparse → Rules
sparse_rules c r =
    member (codes "count") (size_rules r.count)
    & member (codes "indices") (indices_rules c r.indices)
    & member (codes "values") (values_rules c r.values)

abbrev pub accessor_rules : Counts → Accessor → Rules
accessor_rules c r =
    member (codes "bufferView") (optional_rules (index_rules c.views) r.buffer_view)
    & member (codes "byteOffset") (optional_rules size_rules r.byte_offset)
    & member (codes "componentType") (code_rules r.component_type)
    & member (codes "count") (size_rules r.count)
    & member (codes "type") (code_rules r.type_)
    & member (codes "sparse") (optional_rules (sparse_rules c) r.sparse)
