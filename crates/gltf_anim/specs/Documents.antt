-- The list of a document's animations.
use Rattle.std.specs.Prelude.{◌≡◌, length}
use Rattle.gltf_json.specs.declared.root.Root.{Root}
use Rattle.gltf_handles.specs.Positions.{Position, IsWhole}
use Rattle.gltf_anim.specs.declared.iter.AllAnimations.{AllAnimations}

-- the animations of a document, all of them
abbrev pub AreAnimations : Root → Position AllAnimations → Type 0
AreAnimations r p = IsWhole (λ s. s.document.now ≡ r) (length r.animations.items) p
