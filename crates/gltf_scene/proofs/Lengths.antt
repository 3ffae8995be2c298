-- Lists that are not of three values.
use Rattle.std.proofs.Common.{◌≡◌, List, [], ◌∷◌, length, Some, None, refl}
use Rattle.serde_json.specs.View.{items_view}
use Rattle.serde_json.specs.declared.value.Value.{Value}
use Rattle.gltf_scene.specs.Bounds.{three_items}

pub not_three : (vs : List Value) → (length vs ≡ 3 → ⊥) → None ≡ three_items (Some (items_view vs))
not_three [] other = refl
not_three (a ∷ []) other = refl
not_three (a ∷ b ∷ []) other = refl
not_three (a ∷ b ∷ c ∷ []) other = absurd (other refl)
not_three (a ∷ b ∷ c ∷ d ∷ vs) other = refl
