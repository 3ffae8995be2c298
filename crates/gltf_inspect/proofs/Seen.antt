-- Names that were seen are those that stand in front.
use Rattle.std.proofs.Common.{◌≡◌, ℕ, ◌+◌, ◌||◌, Bool, true, false, List, [], ◌∷◌, ◌++◌, refl, sym}
use Rattle.std.proofs.Common.{ap, ◌∙◌, String, Global, string_bytes, ◌<◌, length, drop, get_or, not}
use Rattle.std.proofs.Math.Path.{fun_ext}
use Rattle.std.proofs.lemmas.List.{at_drop_more}
use Rattle.std.specs.Prelude.{bytes_eq}
use Rattle.gltf_json_record.specs.Place.{Place, numbered}
use Rattle.gltf_findings.specs.declared.code.Code.{Code}
use Rattle.gltf_findings.specs.declared.code.Code.TheVariants.{DuplicateElements}
use Rattle.gltf_findings.specs.Checks.{Condition, told_after}
use Rattle.gltf_inspect_meshes.specs.Names.{is_among}
use Rattle.gltf_inspect.specs.Extensions.{unique_checks, unseen_checks}

or_again : (a b c : Bool) → (a || (b || c)) ≡ ((a || b) || c)
or_again true b c = refl
or_again false b c = refl

or_none : (a : Bool) → (a || false) ≡ a
or_none true = refl
or_none false = refl

-- one name more
among_more : (names : List (String Global)) (name : String Global) (q : List ℕ)
    → is_among (names ++ name ∷ []) q ≡ (is_among names q || bytes_eq q (string_bytes name))
among_more [] name q = or_none (bytes_eq q (string_bytes name))
among_more (x ∷ xs) name q =
    ap (λ b. bytes_eq q (string_bytes x) || b) (among_more xs name q)
    ∙ or_again (bytes_eq q (string_bytes x)) (is_among xs q) (bytes_eq q (string_bytes name))

pub same_unique : (seen : List ℕ → Bool) (before : List (String Global)) (k : ℕ)
    (names : List (String Global)) → ((q : List ℕ) → seen q ≡ is_among before q)
    → unseen_checks seen k names ≡ unique_checks before k names
same_unique seen before k [] same = refl
same_unique seen before k (name ∷ names) same =
    rw (
      same (string_bytes name),
      same_unique (λ q. seen q || bytes_eq q (string_bytes name)) (before ++ name ∷ []) (k + 1)
          names (λ q. ap (λ b. b || bytes_eq q (string_bytes name)) (same q)
          ∙ sym (among_more before name q)),
    ) refl

-- a walk that has passed name i too, by what is seen then, has what is left of it after that
pub next_unseen : (f g : List ℕ → Bool) (xs : List (String Global)) (i : ℕ) (x : String Global)
    (was : Bool) (told next all : List (List Place × Code)) (path : List Place) → i < length xs
    → x ≡ get_or xs i x → was ≡ f (string_bytes x)
    → ((q : List ℕ) → g q ≡ (f q || bytes_eq q (string_bytes x)))
    → next ≡ told_after told (path ++ numbered i ∷ []) (Condition (not was) DuplicateElements)
    → told_after told path (unseen_checks f i (drop i xs)) ≡ all
    → told_after next path (unseen_checks g (i + 1) (drop (i + 1) xs)) ≡ all
next_unseen f g xs i x was told next all path within is was_is more passed before =
    ap (λ (h : List ℕ → Bool). told_after next path (unseen_checks h (i + 1) (drop (i + 1) xs)))
    (fun_ext more)
    ∙ ap (λ now. told_after now path
    (unseen_checks (λ q. f q || bytes_eq q (string_bytes x)) (i + 1) (drop (i + 1) xs)))
    (passed
    ∙ ap (λ (b : Bool). told_after told (path ++ numbered i ∷ []) (Condition (not b) DuplicateElements))
    was_is)
    ∙ ap (λ y. told_after told path (unseen_checks f i (y ∷ drop (i + 1) xs))) is
    ∙ sym (at_drop_more (λ ys. told_after told path (unseen_checks f i ys)) xs i x within)
    ∙ before
