-- The names of a list, one after the other.
use Rattle.std.proofs.Common.{◌≡◌, ◌<◌, ◌||◌, ℕ, zero, suc, ◌+◌, Bool, true, false, List, [], ◌∷◌, take}
use Rattle.std.proofs.Common.{length, get_or, String, Global, string_bytes, refl, ap, sym, ◌∙◌, arith}
use Rattle.std.specs.Prelude.{bytes_eq, cond}
use Rattle.gltf_inspect_meshes.specs.Names.{is_among}

or_again : (a b c : Bool) → (a || (b || c)) ≡ ((a || b) || c)
or_again true b c = refl
or_again false b c = refl

or_none : (a : Bool) → (a || false) ≡ a
or_none true = refl
or_none false = refl

-- one name more
one_more : (names : List (String Global)) (i : ℕ) (name : String Global) (q : List ℕ)
    → i < length names → name ≡ get_or names i name → is_among (take (suc i) names) q
    ≡ (is_among (take i names) q || bytes_eq q (string_bytes name))
one_more [] i name q within is = absurd (omega (arith, within))
one_more (x ∷ xs) zero name q within is =
    or_none (bytes_eq q (string_bytes x)) ∙ ap (λ n. bytes_eq q (string_bytes n)) (sym is)
one_more (x ∷ xs) (suc i) name q within is =
    ap (λ b. bytes_eq q (string_bytes x) || b) (one_more xs i name q (omega (arith, within)) is)
    ∙ or_again (bytes_eq q (string_bytes x)) (is_among (take i xs) q)
    (bytes_eq q (string_bytes name))

pub among_more : (names : List (String Global)) (i : ℕ) (name : String Global) (q : List ℕ)
    → i < length names → name ≡ get_or names i name → is_among (take (i + 1) names) q
    ≡ (is_among (take i names) q || bytes_eq q (string_bytes name))
among_more names i name q within is =
    let next : i + 1 ≡ suc i = omega arith in
    ap (λ n. is_among (take n names) q) next ∙ one_more names i name q within is

-- a set that has one name more has it among the others
pub has_more : (b old : Bool) → cond b true old ≡ (old || b)
has_more true true = refl
has_more true false = refl
has_more false old = sym (or_none old)
