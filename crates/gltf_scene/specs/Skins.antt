-- Handles of skins.
use Rattle.std.specs.Prelude.{ℕ}
use Rattle.gltf_json.specs.declared.root.Root.{Root}
use Rattle.gltf_json_scene.specs.declared.skin.Skin.{Skin as SkinRecord}
use Rattle.gltf_rules.specs.declared.records.Records.{Ghosts}
use Rattle.gltf_handles.specs.Handle.{Handle, IsAt}
use Rattle.gltf_handles.specs.Inner.{handle_at}
use Rattle.gltf_scene.specs.declared.skin.Skin.{Skin}

module _ {D : Type 0} {G : Ghosts D} where
  -- what they show
  abbrev pub skin_handle : Skin D G → Handle SkinRecord
  skin_handle s = handle_at s.inner s.index

  -- the handle of skin i of a document
  abbrev pub IsSkin : Root → ℕ → Skin D G → Type 0
  IsSkin r i s = IsAt r.skins.items r i (skin_handle s)
