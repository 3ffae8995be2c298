-- Handles of the uses of textures.
use Rattle.gltf_json.specs.declared.root.Root.{Root}
use Rattle.gltf_json_material.specs.declared.texture.Info.{Info as InfoRecord}
use Rattle.gltf_json_material.specs.declared.extensions.texture.TextureTransform.{
  TextureTransform as TransformRecord,
}
use Rattle.gltf_rules.specs.declared.records.Records.{Ghosts}
use Rattle.gltf_handles.specs.Handle.{Inner, IsIn}
use Rattle.gltf_handles.specs.Inner.{handle_in}
use Rattle.gltf_material.specs.declared.texture.Info.{Info}
use Rattle.gltf_material.specs.declared.texture.TextureTransform.{TextureTransform}

module _ {D : Type 0} {G : Ghosts D} where
  -- what they show
  abbrev pub info_handle : Info D G → Inner InfoRecord
  info_handle i = handle_in i.inner

  -- the handle of the use of a texture, by its record
  abbrev pub IsInfo : Root → InfoRecord → Info D G → Type 0
  IsInfo r x i = IsIn r x (info_handle i)

-- what a transform shows
abbrev pub transform_record : TextureTransform → TransformRecord
transform_record t = t.json.now
