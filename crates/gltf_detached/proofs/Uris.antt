-- The URI of a name leads to the name (glTF 2.0, section 2.8).
use Rattle.std.proofs.Common.{◌≡◌, ◌≢◌, ℕ, ◌<◌, ◌+◌, ◌/◌, ◌%◌, List, [], ◌∷◌, ◌&&◌, Bool, true}
use Rattle.std.proofs.Common.{false}
use Rattle.std.proofs.Common.{Option, Some, None, option_map, refl, sym, ap, subst, ◌∙◌, arith, All}
use Rattle.std.proofs.Common.{codes, nat_eq, ltb, ◌⊎◌, ⊎_elim, String, Global, string_bytes}
use Rattle.std.proofs.Math.Utf8.{scalar, scalars, encode, encodes, scalar_cases}
use Rattle.std.proofs.lemmas.Bool.{cond_both, ltb-true}
use Rattle.std.proofs.lemmas.List.Elements.{All-nil, All-cons, All-append, All-head, All-tail}
use Rattle.std.proofs.lemmas.Str.{IsUtf8-string_bytes, is_utf8-from_IsUtf8}
use Rattle.std.specs.List.{starts_with}
use Rattle.std.specs.Str.{IsUtf8}
use Rattle.percent_encoding.specs.AsciiSet.{contains, should_percent_encode}
use Rattle.percent_encoding.specs.Percent.{percent_encode, percent_decode}
use Rattle.percent_encoding.proofs.PercentLemmas.{round_trip, All-percent_encode, IsEscapeByte}
use Rattle.percent_encoding.proofs.PercentLemmas.{IsByte}
use Rattle.gltf_buffers.specs.Uri.{cut_at, uri_of, Relative}
use Rattle.gltf_detach.specs.Naming.{uri_text, uri_of_part}
use Rattle.gltf_detach.specs.declared.naming.TheConstants.{ESCAPED}
use Rattle.gltf_detach.specs.declared.part.Part.{Part}
use Rattle.gltf_detached.specs.Laws.{LeadToNames}

-- ---- the bytes of texts are bytes

abbrev next : ℕ → ℕ
next b = 128 + b % 64

one : (c : ℕ) → All IsByte (next c ∷ [])
one c = All-cons IsByte (next c) [] (omega arith) (All-nil IsByte)

two : (b c : ℕ) → All IsByte (next b ∷ next c ∷ [])
two b c = All-cons IsByte (next b) (next c ∷ []) (omega arith) (one c)

three : (a b c : ℕ) → All IsByte (next a ∷ next b ∷ next c ∷ [])
three a b c = All-cons IsByte (next a) (next b ∷ next c ∷ []) (omega arith) (two b c)

small_encode : (c : ℕ) → c < 1114112 → All IsByte (encode c)
unfolding encode
small_encode c small =
    cond_both (ltb c 128) (c ∷ []) _ (All IsByte)
    (λ e. let h = ltb-true c 128 e in
    All-cons IsByte c [] (omega (arith, h)) (All-nil IsByte))
    (λ e. cond_both (ltb c 2048) ((192 + c / 64) ∷ next c ∷ []) _ (All IsByte)
    (λ e. let h = ltb-true c 2048 e in
    All-cons IsByte (192 + c / 64) (next c ∷ []) (omega (arith, h)) (one c))
    (λ e. cond_both (ltb c 65536) ((224 + c / 4096) ∷ next (c / 64) ∷ next c ∷ []) _ (All IsByte)
    (λ e. let h = ltb-true c 65536 e in
    All-cons IsByte (224 + c / 4096) (next (c / 64) ∷ next c ∷ []) (omega (arith, h))
    (two (c / 64) c))
    (λ e. All-cons IsByte (240 + c / 262144) (next (c / 4096) ∷ next (c / 64) ∷ next c ∷ [])
    (omega (arith, small)) (three (c / 4096) (c / 64) c))))

both_true : (a b : Bool) → (a && b) ≡ true → (a ≡ true) × (b ≡ true)
both_true true true is = (refl, refl)
both_true true false is = cc
both_true false b is = cc

small_encodes : (cs : List ℕ) → scalars cs ≡ true → All IsByte (encodes cs)
small_encodes [] is = All-nil IsByte
small_encodes (c ∷ cs) is =
    let both = both_true (scalar c) (scalars cs) is in
    let small : c < 1114112 =
    ⊎_elim (λ h. omega (arith, h)) (λ h. omega (arith, h.1)) (scalar_cases c both.0) in
    All-append IsByte (encode c) (encodes cs) (small_encode c small) (small_encodes cs both.1)

small_text : (bs : List ℕ) → IsUtf8 bs → All IsByte bs
small_text bs text = subst (All IsByte) text.1.1 (small_encodes text.0 text.1.0)

-- ---- no colon

abbrev IsNoColon : ℕ → Type 0
IsNoColon b = b ≢ 58

kept_no_colon : (b : ℕ) → should_percent_encode ESCAPED b ≡ false → IsNoColon b
unfolding should_percent_encode
kept_no_colon b kept same =
    let at : should_percent_encode ESCAPED 58 ≡ false =
    subst (λ (n : ℕ). should_percent_encode ESCAPED n ≡ false) same kept in cc

escape_no_colon : (b : ℕ) → IsEscapeByte b → IsNoColon b
escape_no_colon b is same = grind arith

no_colon : (name : List ℕ) → All IsNoColon (uri_text name)
no_colon name = All-percent_encode IsNoColon ESCAPED name kept_no_colon escape_no_colon

not_equal : (a b : ℕ) → b ≢ a → nat_eq a b ≡ false
not_equal a b apart = grind arith

uncut : (t : List ℕ) → All IsNoColon t → cut_at (codes ":") t ≡ None
unfolding cut_at
uncut [] none = refl
uncut (b ∷ t) none =
    let here = not_equal 58 b (All-head IsNoColon b t none) in
    let later = uncut t (All-tail IsNoColon b t none) in
    rw here (ap (option_map _) later)

-- ---- all together

pub leads : LeadToNames
unfolding uri_of
leads p =
    let name = string_bytes p.name in
    let text = IsUtf8-string_bytes p.name in
    let decoded = round_trip ESCAPED name refl (small_text name text) in
    rw (uncut (uri_text name) (no_colon name), decoded, is_utf8-from_IsUtf8 name text) refl
