-- The texts of reference tokens, one after the other.
use Rattle.std.proofs.Common.{◌≡◌, ℕ, suc, ◌+◌, ◌<◌, List, [], ◌∷◌, ◌++◌, length, take, get_or, map}
use Rattle.std.proofs.Common.{refl, sym, ap, ap₂, ◌∙◌, append_assoc, append-nil, arith, codes}
use Rattle.std.proofs.Common.{encode_utf8}
use Rattle.std.proofs.lemmas.Bool.Decides.{nat_tests}
use Rattle.std.proofs.lemmas.Grind.{flat_map-append}
use Rattle.std.proofs.lemmas.List.{take_more, map-append}
use Rattle.std.proofs.lemmas.Str.{inside_one}
use Rattle.gltf_json_record.specs.Place.{place_of}
use Rattle.gltf_json_record.specs.Pointer.{escape, escaped}
use Rattle.gltf_json_record.specs.Pointer.{reference_token, pointer_step, pointer_text}
use Rattle.gltf_json_record.specs.declared.path.Step.{Step}

escape_other : (x : ℕ) → ¬ (x ≡ 126) → ¬ (x ≡ 47) → escape x ≡ x ∷ []
escape_other x tilde slash = grind (arith, nat_tests)

escaped_others : (s : List ℕ) → ((k : ℕ) → k < length s → ¬ (get_or s k 0 ≡ 126))
    → ((k : ℕ) → k < length s → ¬ (get_or s k 0 ≡ 47)) → escaped s ≡ s
escaped_others [] tilde slash = refl
escaped_others (x ∷ s) tilde slash =
    ap₂ (λ (a b : List ℕ). a ++ b)
    (escape_other x (tilde 0 (omega arith)) (slash 0 (omega arith)))
    (
    escaped_others s
    (λ k below. tilde (suc k) (omega arith))
    (λ k below. slash (suc k) (omega arith))
    )

-- no byte of another character is ASCII
apart : (c b : ℕ) → b < 128 → ¬ (c ≡ b) → (k : ℕ) → k < length (encode_utf8 c)
    → ¬ (get_or (encode_utf8 c) k 0 ≡ b)
apart c b ascii other k below same =
    other (inside_one c [] (encode_utf8 c) k (sym (append-nil _)) below (omega arith) ∙ same)

pub escaped_char : (c : ℕ) → ¬ (c ≡ 126) → ¬ (c ≡ 47) → escaped (encode_utf8 c) ≡ encode_utf8 c
escaped_char c tilde slash =
    escaped_others (encode_utf8 c)
    (apart c 126 (omega arith) tilde)
    (apart c 47 (omega arith) slash)

-- the token of one more step comes after those of the others
pub pointer_text-one_more : (steps : List Step) (i : ℕ) (step : Step) → i < length steps
    → step ≡ get_or steps i step
    → (pointer_text (map place_of (take i steps)) ++ codes "/") ++ reference_token (place_of step)
    ≡ pointer_text (map place_of (take (i + 1) steps))
pointer_text-one_more steps i step below at =
    let before = pointer_text (map place_of (take i steps)) in
    rw (
      take_more steps i step below,
      ← at,
      map-append place_of (take i steps) (step ∷ []),
      flat_map-append pointer_step (map place_of (take i steps)) (place_of step ∷ []),
      append-nil,
    ) (append_assoc before (codes "/") (reference_token (place_of step)))

-- one character of a name is written
pub escaped_step : (c : ℕ) (piece a b old rest all : List ℕ) → old ≡ encode_utf8 c ++ rest
    → escaped (encode_utf8 c) ≡ piece → a ++ escaped old ≡ all → b ≡ a ++ piece
    → b ++ escaped rest ≡ all
escaped_step c piece a b old rest all step is before wrote =
    let now : escaped old ≡ piece ++ escaped rest =
    ap escaped step ∙ flat_map-append escape (encode_utf8 c) rest
    ∙ ap (λ t. t ++ escaped rest) is in
    ap (λ t. t ++ escaped rest) wrote ∙ append_assoc a piece (escaped rest)
    ∙ ap (λ t. a ++ t) (sym now) ∙ before
