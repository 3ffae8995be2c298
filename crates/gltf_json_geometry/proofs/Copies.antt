-- The names of copied attributes.
use Rattle.std.proofs.Common.{◌≡◌, ℕ, List, [], ◌∷◌, refl}
use Rattle.std.specs.List.{AllZip}
use Rattle.std.specs.Prelude.{Result, Ok, Err, IfOk, MatchResult}
use Rattle.std.specs.BTreeMap.{BTreeMap}
use Rattle.std.proofs.lemmas.Map.Lookups.{map_keys}
use Rattle.gltf_json_geometry.specs.Semantics.{order_key, semantic_name}
use Rattle.gltf_json_geometry.specs.declared.semantic.Semantic.{Semantic}

abbrev AreCopied : (ℕ → ℕ → Type 0) → Semantic × ℕ → Semantic × ℕ → Type 0
AreCopied D p q =
    ((order_key q.0 ≡ order_key p.0) × (semantic_name q.0 ≡ semantic_name p.0)) × D p.1 q.1

names_copied : (D : ℕ → ℕ → Type 0) → ((x y : ℕ) → D x y → y ≡ x) → (es fs : List (Semantic × ℕ))
    → AllZip (AreCopied D) es fs → map_keys semantic_name fs ≡ map_keys semantic_name es
names_copied D equal [] [] same = refl
names_copied D equal [] (f ∷ fs) same = absurd same
names_copied D equal (e ∷ es) [] same = absurd same
names_copied D equal (e ∷ es) (f ∷ fs) same =
    rw (same.0.0.1, equal e.1 f.1 same.0.1, names_copied D equal es fs same.1) refl

pub clone_names : {E : Type 0} (D : ℕ → ℕ → Type 0) → ((x y : ℕ) → D x y → y ≡ x)
    → (m : BTreeMap Semantic ℕ) (r : Result (BTreeMap Semantic ℕ) E) (Q : E → Type 0)
    → MatchResult r (λ n. AllZip (AreCopied D) m.entries n.entries) Q
    → IfOk r (λ n. map_keys semantic_name n.entries ≡ map_keys semantic_name m.entries)
clone_names D equal m (Ok n) Q same = names_copied D equal m.entries n.entries same
clone_names D equal m (Err e) Q same = tt
