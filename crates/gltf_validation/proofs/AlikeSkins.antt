-- Skins that show the same have the same rules.
use Rattle.std.proofs.Common.{◌≡◌, ap, ℕ}
use Rattle.std.specs.Prelude.{codes}
use Rattle.gltf_json_scene.specs.Skins.{skin}
use Rattle.gltf_json_scene.specs.declared.skin.Skin.{Skin}
use Rattle.gltf_validation.specs.declared.counts.Counts.{Counts}
use Rattle.gltf_validation.specs.Members.{index_rules}
use Rattle.gltf_validation.specs.Skins.{skin_rules}
use Rattle.gltf_validation.proofs.Alike.{at, both, list_alike, optional_alike}

pub skin_rules-alike : (c : Counts) (x y : Skin) → skin.content x ≡ skin.content y
    → skin_rules c x ≡ skin_rules c y
unfolding skin
skin_rules-alike c x y e =
    both (at (codes "inverseBindMatrices")
    (optional_alike (λ (n : ℕ). n) (index_rules c.accessors)
    (λ m n. ap (index_rules c.accessors)) x.inverse_bind_matrices y.inverse_bind_matrices
    (ap (λ s. s.0) e)))
    (both (at (codes "joints") (list_alike (λ (n : ℕ). n) (index_rules c.nodes)
    (λ m n. ap (index_rules c.nodes)) x.joints.items y.joints.items (ap (λ s. s.1.0) e)))
    (at (codes "skeleton") (optional_alike (λ (n : ℕ). n) (index_rules c.nodes)
    (λ m n. ap (index_rules c.nodes)) x.skeleton y.skeleton (ap (λ s. s.1.1.0) e))))
