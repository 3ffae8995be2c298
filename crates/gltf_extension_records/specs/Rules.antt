-- The rules of the indices and codes of extensions, in the order of their members.
use Rattle.std.specs.Prelude.{codes}
use Rattle.gltf_validation.specs.declared.counts.Counts.{Counts}
use Rattle.gltf_validation.specs.Rules.{Rules, Nothing, ◌&◌}
use Rattle.gltf_validation.specs.Members.{member, index_rules, code_rules, optional_rules}
use Rattle.gltf_extension_records.specs.declared.texture.TextureInfo.{TextureInfo}
use Rattle.gltf_extension_records.specs.declared.texture.NormalTextureInfo.{NormalTextureInfo}
use Rattle.gltf_extension_records.specs.declared.texture.TextureSource.{TextureSource}
use Rattle.gltf_extension_records.specs.declared.node.InstanceAttributes.{InstanceAttributes}
use Rattle.gltf_extension_records.specs.declared.node.MeshGpuInstancing.{MeshGpuInstancing}
use Rattle.gltf_extension_records.specs.declared.view.MeshoptCompression.{MeshoptCompression}
use Rattle.gltf_extension_records.specs.declared.material.Clearcoat.{Clearcoat}
use Rattle.gltf_extension_records.specs.declared.material.Sheen.{Sheen}
use Rattle.gltf_extension_records.specs.declared.material.Iridescence.{Iridescence}
use Rattle.gltf_extension_records.specs.declared.material.Anisotropy.{Anisotropy}
use Rattle.gltf_extension_records.specs.declared.material.Dispersion.{Dispersion}
use Rattle.gltf_extension_records.specs.declared.material.DiffuseTransmission.{DiffuseTransmission}

abbrev pub info_rules : Counts → TextureInfo → Rules
info_rules c r =
    member (codes "index") (index_rules c.textures r.index)

abbrev pub normal_info_rules : Counts → NormalTextureInfo → Rules
normal_info_rules c r =
    member (codes "index") (index_rules c.textures r.index)

abbrev pub source_rules : Counts → TextureSource → Rules
source_rules c r =
    member (codes "source") (optional_rules (index_rules c.images) r.source)

abbrev pub clearcoat_rules : Counts → Clearcoat → Rules
clearcoat_rules c r =
    member (codes "clearcoatTexture") (optional_rules (info_rules c) r.clearcoat_texture)
    & member (codes "clearcoatRoughnessTexture")
    (optional_rules (info_rules c) r.clearcoat_roughness_texture)
    & member (codes "clearcoatNormalTexture")
    (optional_rules (normal_info_rules c) r.clearcoat_normal_texture)

abbrev pub sheen_rules : Counts → Sheen → Rules
sheen_rules c r =
    member (codes "sheenColorTexture") (optional_rules (info_rules c) r.sheen_color_texture)
    & member (codes "sheenRoughnessTexture")
    (optional_rules (info_rules c) r.sheen_roughness_texture)

abbrev pub iridescence_rules : Counts → Iridescence → Rules
iridescence_rules c r =
    member (codes "iridescenceTexture") (optional_rules (info_rules c) r.iridescence_texture)
    & member (codes "iridescenceThicknessTexture")
    (optional_rules (info_rules c) r.iridescence_thickness_texture)

abbrev pub anisotropy_rules : Counts → Anisotropy → Rules
anisotropy_rules c r =
    member (codes "anisotropyTexture") (optional_rules (info_rules c) r.anisotropy_texture)

abbrev pub dispersion_rules : Counts → Dispersion → Rules
dispersion_rules c r = Nothing

abbrev pub diffuse_transmission_rules : Counts → DiffuseTransmission → Rules
diffuse_transmission_rules c r =
    member (codes "diffuseTransmissionTexture")
    (optional_rules (info_rules c) r.diffuse_transmission_texture)
    & member (codes "diffuseTransmissionColorTexture")
    (optional_rules (info_rules c) r.diffuse_transmission_color_texture)

abbrev pub instance_attributes_rules : Counts → InstanceAttributes → Rules
instance_attributes_rules c r =
    member (codes "TRANSLATION") (optional_rules (index_rules c.accessors) r.translation)
    & member (codes "ROTATION") (optional_rules (index_rules c.accessors) r.rotation)
    & member (codes "SCALE") (optional_rules (index_rules c.accessors) r.scale)

abbrev pub mesh_gpu_instancing_rules : Counts → MeshGpuInstancing → Rules
mesh_gpu_instancing_rules c r =
    member (codes "attributes") (instance_attributes_rules c r.attributes)

abbrev pub meshopt_compression_rules : Counts → MeshoptCompression → Rules
meshopt_compression_rules c r =
    member (codes "buffer") (index_rules c.buffers r.buffer)
    & member (codes "mode") (code_rules r.mode)
    & member (codes "filter") (code_rules r.filter)
