-- Where a URI leads (glTF 2.0, section 2.8), given by the places at which `:` and `;base64,` stand
-- in it.
use Rattle.std.specs.Prelude.{ℕ, ◌≢◌, List, [], ◌∷◌, length, drop, All, nat_eq, Option, Some, None}
use Rattle.std.specs.Prelude.{option_map, unwrap_or, is_some, codes, if◌then◌else◌}
use Rattle.std.specs.List.{starts_with}
use Rattle.std.specs.Str.{is_utf8}
use Rattle.percent_encoding.specs.Percent.{percent_decode, percent_sign}

-- an embedded payload in base64, a file's path, a relative reference after percent-decoding, or
-- none of these
pub data Meaning : Type 0 where
  Payload : List ℕ → Meaning
  File : List ℕ → Meaning
  Relative : List ℕ → Meaning
  Unsupported : Meaning

-- what stands in s before the first n, and what stands after it
unfoldable pub cut_at : List ℕ → List ℕ → Option (List ℕ × List ℕ)
cut_at n [] = None
cut_at n (b ∷ s) =
    if starts_with nat_eq (b ∷ s) n then Some ([], drop (length n) (b ∷ s))
    else option_map (λ p. (b ∷ p.0, p.1)) (cut_at n s)

-- what stands after the first n, or all
abbrev pub behind : List ℕ → List ℕ → List ℕ
behind n s = unwrap_or (option_map (λ parts. parts.1) (cut_at n s)) s

-- what stands before the first n, or all
abbrev pub before : List ℕ → List ℕ → List ℕ
before n s = unwrap_or (option_map (λ parts. parts.0) (cut_at n s)) s

-- what stands after n, where s begins with n
abbrev pub text_behind : List ℕ → List ℕ → Option (List ℕ)
text_behind n s = if starts_with nat_eq s n then Some (drop (length n) s) else None

-- of the text after `data:`: from the first mark up to the next one or the end; where there is no
-- mark, all
unfoldable pub payload_of : List ℕ → List ℕ
payload_of text = before (codes ";base64,") (behind (codes ";base64,") text)

-- the first that is there
abbrev pub first_of : Option Meaning → Meaning → Meaning
first_of None m = m
first_of (Some m) _ = m

-- a text with a scheme: by its prefix, compared as it stands
abbrev pub absolute : List ℕ → Meaning
absolute t =
    first_of (option_map (λ rest. Payload (payload_of rest)) (text_behind (codes "data:") t))
    (first_of (option_map File (text_behind (codes "file://") t))
    (first_of (option_map File (text_behind (codes "file:") t)) Unsupported))

-- the bytes of a relative reference: they are to be text
abbrev pub relative : List ℕ → Meaning
relative bytes = if is_utf8 bytes then Relative bytes else Unsupported

-- a `:` makes a scheme; it is looked for before decoding
unfoldable pub uri_of : List ℕ → Meaning
uri_of t = if is_some (cut_at (codes ":") t) then absolute t else relative (percent_decode t)

-- no escape can stand in the text
abbrev pub HasNoPercentSign : List ℕ → Type 0
HasNoPercentSign t = All (λ b. b ≢ percent_sign) t
