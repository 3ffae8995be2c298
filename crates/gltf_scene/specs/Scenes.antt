-- Handles of scenes.
use Rattle.std.specs.Prelude.{ℕ}
use Rattle.gltf_json.specs.declared.root.Root.{Root}
use Rattle.gltf_json_scene.specs.declared.scene.Scene.{Scene as SceneRecord}
use Rattle.gltf_rules.specs.declared.records.Records.{Ghosts}
use Rattle.gltf_handles.specs.Handle.{Handle, IsAt}
use Rattle.gltf_handles.specs.Inner.{handle_at}
use Rattle.gltf_scene.specs.declared.scene.Scene.{Scene}

module _ {D : Type 0} {G : Ghosts D} where
  -- what they show
  abbrev pub scene_handle : Scene D G → Handle SceneRecord
  scene_handle s = handle_at s.inner s.index

  -- the handle of scene i of a document
  abbrev pub IsScene : Root → ℕ → Scene D G → Type 0
  IsScene r i s = IsAt r.scenes.items r i (scene_handle s)
