-- Images that show the same have the same rules.
use Rattle.std.proofs.Common.{◌≡◌, ap, ℕ}
use Rattle.std.specs.Prelude.{codes, is_some, is_none}
use Rattle.gltf_json_record.specs.Scalars.{text}
use Rattle.gltf_json_scene.specs.Images.{image}
use Rattle.gltf_json_scene.specs.declared.image.Image.{Image}
use Rattle.gltf_validation.specs.declared.counts.Counts.{Counts}
use Rattle.gltf_validation.specs.Members.{index_rules}
use Rattle.gltf_validation.specs.Images.{image_rules}
use Rattle.gltf_validation.proofs.Alike.{at, both, is_none-alike, is_some-alike, needed_alike}
use Rattle.gltf_validation.proofs.Alike.{optional_alike}

pub image_rules-alike : (c : Counts) (x y : Image) → image.content x ≡ image.content y
    → image_rules c x ≡ image_rules c y
unfolding image
image_rules-alike c x y e =
    both (at (codes "bufferView") (optional_alike (λ (n : ℕ). n) (index_rules c.views)
    (λ m n. ap (index_rules c.views)) x.buffer_view y.buffer_view (ap (λ s. s.0) e)))
    (both (at (codes "mimeType") (needed_alike text.content (is_some x.buffer_view)
    (is_some y.buffer_view) x.mime_type y.mime_type
    (is_some-alike (λ (n : ℕ). n) x.buffer_view y.buffer_view (ap (λ s. s.0) e))
    (ap (λ s. s.1.0) e)))
    (at (codes "uri") (needed_alike text.content (is_none x.buffer_view)
    (is_none y.buffer_view) x.uri y.uri
    (is_none-alike (λ (n : ℕ). n) x.buffer_view y.buffer_view (ap (λ s. s.0) e))
    (ap (λ s. s.1.1.0) e))))
