-- Buffers and buffer views that show the same have the same rules.
use Rattle.std.proofs.Common.{◌≡◌, ap, ℕ}
use Rattle.std.specs.Prelude.{codes}
use Rattle.gltf_json_geometry.specs.Buffers.{buffer, buffer_view}
use Rattle.gltf_json_geometry.specs.declared.buffer.Buffer.{Buffer}
use Rattle.gltf_json_geometry.specs.declared.buffer.View.{View}
use Rattle.gltf_validation.specs.declared.counts.Counts.{Counts}
use Rattle.gltf_validation.specs.Members.{code_rules, index_rules, size_rules}
use Rattle.gltf_validation.specs.Buffers.{buffer_rules, view_rules}
use Rattle.gltf_validation.proofs.Alike.{at, both, optional_alike}

pub buffer_rules-alike : (c : Counts) (x y : Buffer) → buffer.content x ≡ buffer.content y
    → buffer_rules c x ≡ buffer_rules c y
unfolding buffer
buffer_rules-alike c x y e =
    at (codes "byteLength") (ap size_rules (ap (λ s. s.0) e))

pub view_rules-alike : (c : Counts) (x y : View) → buffer_view.content x ≡ buffer_view.content y
    → view_rules c x ≡ view_rules c y
unfolding buffer_view
view_rules-alike c x y e =
    both (at (codes "buffer") (ap (index_rules c.buffers) (ap (λ s. s.0) e)))
    (both (at (codes "byteLength") (ap size_rules (ap (λ s. s.1.0) e)))
    (both (at (codes "byteOffset") (optional_alike (λ (n : ℕ). n) size_rules
    (λ m n. ap size_rules) x.byte_offset y.byte_offset (ap (λ s. s.1.1.0) e)))
    (both (at (codes "byteStride") (optional_alike (λ (n : ℕ). n) size_rules
    (λ m n. ap size_rules) x.byte_stride y.byte_stride (ap (λ s. s.1.1.1.0) e)))
    (at (codes "target") (optional_alike (λ code. code) code_rules
    (λ a b. ap code_rules) x.target y.target (ap (λ s. s.1.1.1.1.0) e))))))
