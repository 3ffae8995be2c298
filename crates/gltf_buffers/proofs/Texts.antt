-- Decoded bytes that are text, and those that are not.
use Rattle.std.proofs.Common.{ℕ, ◌≡◌, List, refl}
use Rattle.std.specs.Str.{IsUtf8, is_utf8}
use Rattle.std.proofs.lemmas.Bool.{false_from_ne_true}
use Rattle.std.proofs.lemmas.Str.{IsUtf8-from_is_utf8, is_utf8-from_IsUtf8}
use Rattle.gltf_buffers.specs.Uri.{relative, Relative, Unsupported}

pub relative_text : (bytes : List ℕ) → IsUtf8 bytes → relative bytes ≡ Relative bytes
relative_text bytes is = rw (is_utf8-from_IsUtf8 bytes is) refl

pub no_text : (bytes : List ℕ) → (IsUtf8 bytes → ⊥) → relative bytes ≡ Unsupported
no_text bytes isnt =
    rw (false_from_ne_true (is_utf8 bytes) (λ e. isnt (IsUtf8-from_is_utf8 bytes e))) refl
