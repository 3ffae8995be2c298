-- Characters that stand for others, one after the other.
use Rattle.std.proofs.Common.{◌≡◌, ℕ, List, [], ◌∷◌, ◌++◌, append_assoc, append-nil, encode_utf8}
use Rattle.std.specs.Prelude.{encode_utf8_all}
use Rattle.std.proofs.lemmas.Grind.{flat_map-append}
use Rattle.std.proofs.lemmas.Str.{encodes-append}
use Rattle.gltf_report.specs.Printable.{shown_char, shown_chars}

-- one character more of the text is read
pub text-one_more : (cs : List ℕ) (c : ℕ) (old rest text : List ℕ) → old ≡ encode_utf8 c ++ rest
    → encode_utf8_all cs ++ old ≡ text → encode_utf8_all (cs ++ c ∷ []) ++ rest ≡ text
text-one_more cs c old rest text is before =
    rw (
      encodes-append cs (c ∷ []),
      append-nil (encode_utf8 c),
      append_assoc (encode_utf8_all cs) (encode_utf8 c) rest,
      ← is,
    ) before

-- and what stands for it is written
pub shown-one_more : (cs : List ℕ) (c : ℕ) (a b before : List ℕ)
    → b ≡ a ++ encode_utf8_all (shown_char c) → a ≡ before ++ encode_utf8_all (shown_chars cs)
    → b ≡ before ++ encode_utf8_all (shown_chars (cs ++ c ∷ []))
shown-one_more cs c a b before wrote so_far =
    rw (
      flat_map-append shown_char cs (c ∷ []),
      append-nil (shown_char c),
      encodes-append (shown_chars cs) (shown_char c),
      wrote,
      so_far,
    ) (append_assoc before (encode_utf8_all (shown_chars cs)) (encode_utf8_all (shown_char c)))
