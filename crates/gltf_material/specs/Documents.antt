-- The list of a document's materials.
use Rattle.std.specs.Prelude.{◌≡◌, length}
use Rattle.gltf_json.specs.declared.root.Root.{Root}
use Rattle.gltf_handles.specs.Positions.{Position, IsWhole}
use Rattle.gltf_material.specs.declared.iter.AllMaterials.{AllMaterials}

-- the materials of a document, all of them
abbrev pub AreMaterials : Root → Position AllMaterials → Type 0
AreMaterials r p = IsWhole (λ s. s.document.now ≡ r) (length r.materials.items) p
