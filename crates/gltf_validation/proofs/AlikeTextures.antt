-- Textures, their samplers and their uses that show the same have the same rules.
use Rattle.std.proofs.Common.{◌≡◌, ap, ℕ}
use Rattle.std.specs.Prelude.{codes}
use Rattle.gltf_json_material.specs.Textures.{texture_info}
use Rattle.gltf_json_scene.specs.Textures.{sampler, texture}
use Rattle.gltf_json_scene.specs.declared.texture.Sampler.{Sampler}
use Rattle.gltf_json_scene.specs.declared.texture.Texture.{Texture}
use Rattle.gltf_json_material.specs.declared.texture.Info.{Info}
use Rattle.gltf_validation.specs.declared.counts.Counts.{Counts}
use Rattle.gltf_validation.specs.Members.{code_rules, index_rules}
use Rattle.gltf_validation.specs.Textures.{info_rules, sampler_rules, texture_rules}
use Rattle.gltf_validation.proofs.Alike.{at, both, optional_alike}

pub sampler_rules-alike : (c : Counts) (x y : Sampler) → sampler.content x ≡ sampler.content y
    → sampler_rules c x ≡ sampler_rules c y
unfolding sampler
sampler_rules-alike c x y e =
    both (at (codes "magFilter") (optional_alike (λ code. code) code_rules
    (λ a b. ap code_rules) x.mag_filter y.mag_filter (ap (λ s. s.0) e)))
    (both (at (codes "minFilter") (optional_alike (λ code. code) code_rules
    (λ a b. ap code_rules) x.min_filter y.min_filter (ap (λ s. s.1.0) e)))
    (both (at (codes "wrapS") (ap code_rules (ap (λ s. s.1.1.0) e)))
    (at (codes "wrapT") (ap code_rules (ap (λ s. s.1.1.1.0) e)))))

pub texture_rules-alike : (c : Counts) (x y : Texture) → texture.content x ≡ texture.content y
    → texture_rules c x ≡ texture_rules c y
unfolding texture
texture_rules-alike c x y e =
    both (at (codes "sampler") (optional_alike (λ (n : ℕ). n) (index_rules c.samplers)
    (λ m n. ap (index_rules c.samplers)) x.sampler y.sampler (ap (λ s. s.0) e)))
    (at (codes "source") (ap (index_rules c.images) (ap (λ s. s.1.0) e)))

pub info_rules-alike : (c : Counts) (x y : Info) → texture_info.content x ≡ texture_info.content y
    → info_rules c x ≡ info_rules c y
unfolding texture_info
info_rules-alike c x y e =
    at (codes "index") (ap (index_rules c.textures) (ap (λ s. s.0) e))
