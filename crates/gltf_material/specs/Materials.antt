-- Handles of materials.
use Rattle.std.specs.Prelude.{ℕ, Option, unwrap_or}
use Rattle.std.specs.Option.{option_copied, option_and_then}
use Rattle.gltf_json.specs.declared.root.Root.{Root}
use Rattle.gltf_json_material.specs.declared.material.Material.{Material as MaterialRecord}
use Rattle.gltf_json_material.specs.declared.extensions.material.Material as extended
use Rattle.gltf_rules.specs.declared.records.Records.{Ghosts}
use Rattle.gltf_handles.specs.Handle.{Placed, IsPlaced, IsDefault}
use Rattle.gltf_material.specs.Defaults.{default_material}
use Rattle.gltf_material.specs.declared.material.Material.{Material}

module _ {D : Type 0} {G : Ghosts D} where
  -- what they show: the record, or the defaults where there is none
  abbrev pub material_handle : Material D G → Placed MaterialRecord
  material_handle m = record {
    document = G.root m.document.now;
    index = m.index;
    json = unwrap_or (option_copied m.json) default_material;
  }

  -- the handle of material i of a document
  abbrev pub IsMaterial : Root → ℕ → Material D G → Type 0
  IsMaterial r i m = IsPlaced r.materials.items r i (material_handle m)

  -- the handle of the default material
  abbrev pub IsDefaultMaterial : Root → Material D G → Type 0
  IsDefaultMaterial r m = IsDefault default_material r (material_handle m)

-- a member of the extensions, where both are there
abbrev pub extension : {X : Type 0} → (extended.Material → Option X) → MaterialRecord
    → Option X
extension member m = option_and_then member m.extensions
