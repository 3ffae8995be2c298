-- Handles of the parts of a material.
use Rattle.std.specs.Prelude.{Option, unwrap_or}
use Rattle.std.specs.Option.{option_copied}
use Rattle.gltf_json.specs.declared.root.Root.{Root}
use Rattle.gltf_json_material.specs.declared.material.PbrMetallicRoughness.{
  PbrMetallicRoughness as PbrMetallicRoughnessRecord,
}
use Rattle.gltf_json_material.specs.declared.material.NormalTexture.{NormalTexture as NormalRecord}
use Rattle.gltf_json_material.specs.declared.material.OcclusionTexture.{
  OcclusionTexture as OcclusionRecord,
}
use Rattle.gltf_json_material.specs.declared.extensions.material.PbrSpecularGlossiness.{
  PbrSpecularGlossiness as PbrSpecularGlossinessRecord,
}
use Rattle.gltf_json_material.specs.declared.extensions.material.Transmission.{
  Transmission as TransmissionRecord,
}
use Rattle.gltf_json_material.specs.declared.extensions.material.Volume.{Volume as VolumeRecord}
use Rattle.gltf_json_material.specs.declared.extensions.material.Specular.{
  Specular as SpecularRecord,
}
use Rattle.gltf_rules.specs.declared.records.Records.{Ghosts}
use Rattle.gltf_handles.specs.Handle.{Inner, IsIn}
use Rattle.gltf_handles.specs.Inner.{handle_in}
use Rattle.gltf_material.specs.Defaults.{default_pbr_metallic_roughness}
use Rattle.gltf_material.specs.declared.material.pbr.PbrMetallicRoughness.{PbrMetallicRoughness}
use Rattle.gltf_material.specs.declared.material.pbr.PbrSpecularGlossiness.{PbrSpecularGlossiness}
use Rattle.gltf_material.specs.declared.material.extended.Transmission.{Transmission}
use Rattle.gltf_material.specs.declared.material.extended.Volume.{Volume}
use Rattle.gltf_material.specs.declared.material.extended.Specular.{Specular}
use Rattle.gltf_material.specs.declared.material.maps.NormalTexture.{NormalTexture}
use Rattle.gltf_material.specs.declared.material.maps.OcclusionTexture.{OcclusionTexture}

module _ {D : Type 0} {G : Ghosts D} where
  -- what they show: the record, and of colour, metalness and roughness the defaults where there is
  -- none
  abbrev pub pbr_handle : PbrMetallicRoughness D G → Inner PbrMetallicRoughnessRecord
  pbr_handle p = record {
    document = G.root p.document.now;
    json = unwrap_or (option_copied p.json) default_pbr_metallic_roughness;
  }

  abbrev pub glossiness_handle : PbrSpecularGlossiness D G → Inner PbrSpecularGlossinessRecord
  glossiness_handle p = handle_in p.inner

  abbrev pub transmission_handle : Transmission D G → Inner TransmissionRecord
  transmission_handle t = handle_in t.inner

  abbrev pub volume_handle : Volume D G → Inner VolumeRecord
  volume_handle v = handle_in v.inner

  abbrev pub specular_handle : Specular D G → Inner SpecularRecord
  specular_handle s = handle_in s.inner

  abbrev pub normal_handle : NormalTexture D G → Inner NormalRecord
  normal_handle n = handle_in n.inner

  abbrev pub occlusion_handle : OcclusionTexture D G → Inner OcclusionRecord
  occlusion_handle o = handle_in o.inner

  -- the handle of a part, by its record
  abbrev pub IsPbr : Root → Option PbrMetallicRoughnessRecord → PbrMetallicRoughness D G → Type 0
  IsPbr r x p = IsIn r (unwrap_or x default_pbr_metallic_roughness) (pbr_handle p)

  abbrev pub IsGlossiness : Root → PbrSpecularGlossinessRecord → PbrSpecularGlossiness D G → Type 0
  IsGlossiness r x p = IsIn r x (glossiness_handle p)

  abbrev pub IsTransmission : Root → TransmissionRecord → Transmission D G → Type 0
  IsTransmission r x t = IsIn r x (transmission_handle t)

  abbrev pub IsVolume : Root → VolumeRecord → Volume D G → Type 0
  IsVolume r x v = IsIn r x (volume_handle v)

  abbrev pub IsSpecular : Root → SpecularRecord → Specular D G → Type 0
  IsSpecular r x s = IsIn r x (specular_handle s)

  abbrev pub IsNormal : Root → NormalRecord → NormalTexture D G → Type 0
  IsNormal r x n = IsIn r x (normal_handle n)

  abbrev pub IsOcclusion : Root → OcclusionRecord → OcclusionTexture D G → Type 0
  IsOcclusion r x o = IsIn r x (occlusion_handle o)
