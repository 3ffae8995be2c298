-- What the reader of a skin reads.
use Rattle.gltf_json_scene.specs.declared.skin.Skin.{Skin as SkinRecord}
use Rattle.gltf_handles.specs.Handle.{Handle}
use Rattle.gltf_scene.specs.Skins.{skin_handle}
use Rattle.gltf_read.specs.declared.skin.Reader.{Reader}

-- the skin
abbrev pub skin_of : {F : Type 0} → Reader F → Handle SkinRecord
skin_of reader = skin_handle reader.skin

-- the closure that gives the bytes of buffers
abbrev pub closure_of : {F : Type 0} → Reader F → F
closure_of reader = reader.get_buffer_data.now
