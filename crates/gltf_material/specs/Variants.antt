-- Handles of the mappings from variants to materials.
use Rattle.std.specs.Prelude.{ℕ, List}
use Rattle.gltf_json.specs.declared.root.Root.{Root}
use Rattle.gltf_json_geometry.specs.declared.extensions.mesh.Mapping.{Mapping as MappingRecord}
use Rattle.gltf_rules.specs.declared.records.Records.{Ghosts}
use Rattle.gltf_handles.specs.Handle.{Handle, IsAt}
use Rattle.gltf_material.specs.declared.khr_materials_variants.Mapping.{Mapping}

module _ {D : Type 0} (G : Ghosts D) where
  -- what they show
  abbrev pub mapping_handle : Mapping D → Handle MappingRecord
  mapping_handle m = record { document = G.root m.document.now; index = m.index; json = m.json.now }

  -- the handle of mapping i of a list
  abbrev pub IsMapping : List MappingRecord → Root → ℕ → Mapping D → Type 0
  IsMapping mappings r i m = IsAt mappings r i (mapping_handle m)
