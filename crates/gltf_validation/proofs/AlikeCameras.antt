-- Cameras that show the same have the same rules.
use Rattle.std.proofs.Common.{◌≡◌, ap}
use Rattle.std.specs.Prelude.{codes}
use Rattle.gltf_json_scene.specs.Cameras.{camera, orthographic, perspective}
use Rattle.gltf_json_scene.specs.declared.camera.Camera.{Camera}
use Rattle.gltf_validation.specs.declared.counts.Counts.{Counts}
use Rattle.gltf_validation.specs.Members.{code_rules}
use Rattle.gltf_validation.specs.Cameras.{camera_rules, names_orthographic, names_perspective}
use Rattle.gltf_validation.proofs.Alike.{at, both, needed_alike}

pub camera_rules-alike : (c : Counts) (x y : Camera) → camera.content x ≡ camera.content y
    → camera_rules c x ≡ camera_rules c y
unfolding camera
camera_rules-alike c x y e =
    both (at (codes "type") (ap code_rules (ap (λ s. s.0) e)))
    (both (at (codes "orthographic") (needed_alike orthographic.content (names_orthographic x.type_)
    (names_orthographic y.type_) x.orthographic y.orthographic
    (ap names_orthographic (ap (λ s. s.0) e)) (ap (λ s. s.1.0) e)))
    (at (codes "perspective") (needed_alike perspective.content (names_perspective x.type_)
    (names_perspective y.type_) x.perspective y.perspective
    (ap names_perspective (ap (λ s. s.0) e)) (ap (λ s. s.1.1.0) e))))
