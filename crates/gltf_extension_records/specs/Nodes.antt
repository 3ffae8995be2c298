-- The extensions of a node, row by row.
use Rattle.std.specs.Prelude.{codes, true}
use Rattle.gltf_json_record.specs.Kind.{Kind}
use Rattle.gltf_json_record.specs.Scalars.{flag, index}
use Rattle.gltf_json_record.specs.Table.{required, optional, defaulted, ◌&◌, table}
use Rattle.gltf_extension_records.specs.declared.node.NodeVisibility.{NodeVisibility}
use Rattle.gltf_extension_records.specs.declared.node.InstanceAttributes.{InstanceAttributes}
use Rattle.gltf_extension_records.specs.declared.node.MeshGpuInstancing.{MeshGpuInstancing}

-- the extension KHR_node_visibility
unfoldable pub node_visibility : Kind NodeVisibility
node_visibility = table
    (defaulted (codes "visible") (λ r. r.visible) true flag)

-- the member `attributes` of the extension EXT_mesh_gpu_instancing
unfoldable pub instance_attributes : Kind InstanceAttributes
instance_attributes = table
    (optional (codes "TRANSLATION") (λ r. r.translation) index
    & optional (codes "ROTATION") (λ r. r.rotation) index
    & optional (codes "SCALE") (λ r. r.scale) index)

-- the extension EXT_mesh_gpu_instancing
unfoldable pub mesh_gpu_instancing : Kind MeshGpuInstancing
mesh_gpu_instancing = table
    (required (codes "attributes") (λ r. r.attributes) instance_attributes)
