-- The extensions of animations and of metadata, row by row.
use Rattle.std.specs.Prelude.{codes}
use Rattle.gltf_json_record.specs.Kind.{Kind}
use Rattle.gltf_json_record.specs.Scalars.{n32, text}
use Rattle.gltf_json_record.specs.Table.{required, table}
use Rattle.gltf_extension_records.specs.declared.others.AnimationPointer.{AnimationPointer}
use Rattle.gltf_extension_records.specs.declared.others.XmpPacket.{XmpPacket}

-- the extension KHR_animation_pointer, at the target of a channel
unfoldable pub animation_pointer : Kind AnimationPointer
animation_pointer = table
    (required (codes "pointer") (λ r. r.pointer) text)

-- the extension KHR_xmp_json_ld, at other objects than the root
unfoldable pub xmp_packet : Kind XmpPacket
xmp_packet = table
    (required (codes "packet") (λ r. r.packet) n32)
