-- The lists of a document.
use Rattle.std.specs.Prelude.{◌≡◌, List, length, String}
use Rattle.std.specs.declared.alloc.Global.{Global}
use Rattle.gltf_json.specs.declared.root.Root.{Root}
use Rattle.gltf_handles.specs.declared.iter.AllBuffers.{AllBuffers}
use Rattle.gltf_handles.specs.declared.iter.AllViews.{AllViews}
use Rattle.gltf_handles.specs.declared.iter.AllAccessors.{AllAccessors}
use Rattle.gltf_handles.specs.declared.iter.Texts.{Texts}
use Rattle.gltf_handles.specs.Positions.{Position, IsWhole}

-- the buffers, the views and the accessors of a document, all of them
abbrev pub AreBuffers : Root → Position AllBuffers → Type 0
AreBuffers r p = IsWhole (λ s. s.document.now ≡ r) (length r.buffers.items) p

abbrev pub AreViews : Root → Position AllViews → Type 0
AreViews r p = IsWhole (λ s. s.document.now ≡ r) (length r.buffer_views.items) p

abbrev pub AreAccessors : Root → Position AllAccessors → Type 0
AreAccessors r p = IsWhole (λ s. s.document.now ≡ r) (length r.accessors.items) p

-- all of some texts
abbrev pub AreTexts : List (String Global) → Position Texts → Type 0
AreTexts texts p = IsWhole (λ s. s.texts.now ≡ texts) (length texts) p
