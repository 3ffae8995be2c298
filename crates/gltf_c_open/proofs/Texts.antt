-- Parts of a block that are UTF-8.
use Rattle.std.proofs.Common.{◌≡◌, ◌<◌, ◌+◌, ◌∙◌, ℕ, Bool, true, false, List, [], ◌∷◌, ◌++◌}
use Rattle.std.proofs.Common.{length, take, get_or, map, Option, Some, None, cond, if◌then◌else◌}
use Rattle.std.proofs.Common.{refl, sym, ap, arith}
use Rattle.std.specs.List.{filter}
use Rattle.std.specs.Option.{option_to_list}
use Rattle.std.specs.Str.{IsUtf8, is_utf8}
use Rattle.std.proofs.lemmas.List.{get_or-map, length-map}
use Rattle.std.proofs.lemmas.List.Elements.{filter_more}
use Rattle.std.proofs.lemmas.Str.{IsUtf8-from_is_utf8, is_utf8-from_IsUtf8}

-- a part as a text
abbrev pub text_of : List ℕ → Option (List ℕ)
text_of part = if is_utf8 part then Some part else None

pub is_text : (part : List ℕ) → IsUtf8 part → Some part ≡ text_of part
is_text part is = rw (is_utf8-from_IsUtf8 part is) refl

pub is_no_text : (part : List ℕ) → (IsUtf8 part → ⊥) → None ≡ text_of part
is_no_text part is_not =
    elim (is_utf8 part) as (λ b. is_utf8 part ≡ b → None ≡ (if b then Some part else None))
    [ true ↦ λ e. absurd (is_not (IsUtf8-from_is_utf8 part e)) | false ↦ λ e. refl ] refl

listed : (b : Bool) (part : List ℕ)
    → cond b (part ∷ []) [] ≡ option_to_list (if b then Some part else None)
listed true part = refl
listed false part = refl

-- the texts of one part more
pub one_more : {X : Type 0} (f : X → List ℕ) (parts : List X) (i : ℕ) (d : X)
    (text : Option (List ℕ)) → i < length parts → text ≡ text_of (f (get_or parts i d))
    → filter is_utf8 (take (i + 1) (map f parts))
    ≡ filter is_utf8 (take i (map f parts)) ++ option_to_list text
one_more f parts i d text within is =
    filter_more is_utf8 (map f parts) i (f d) (omega (arith, length-map parts f))
    ∙ ap (λ ts. filter is_utf8 (take i (map f parts)) ++ ts)
    (listed (is_utf8 (get_or (map f parts) i (f d))) (get_or (map f parts) i (f d))
    ∙ ap (λ part. option_to_list (text_of part)) (get_or-map f parts i d (f d) within)
    ∙ ap option_to_list (sym is))
